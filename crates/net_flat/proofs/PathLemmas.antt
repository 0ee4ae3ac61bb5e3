-- Places of paths among those mentioned.
use Rattle.std.proofs.Common.{◌≡◌, ◌∙◌, ap, sym, refl, append_assoc, ℕ, suc, ◌+◌, Bool, true, false, cond, ◌&&◌, List, [], ◌∷◌, ◌++◌, map, length, Option, None, Some, arith}
use Rattle.std.specs.Prelude.{codes}
use Rattle.std.specs.Fmt.{decimal}
use Rattle.std.specs.Str.{bytes_eq}
use Rattle.std.proofs.lemmas.List.{length-append}
use Rattle.std.proofs.lemmas.Slice.Eq.{bytes_eq-Decides}
use Rattle.lists.specs.laws.ListLaws.{append_same}
use Rattle.net_core.specs.NetList.{number_from}
use Rattle.net_blif.specs.Statement.{Token}
use Rattle.net_flat.specs.Paths.{label_of, prefix_of, same_path, same_trail, At, Path}
use Rattle.net_flat.specs.Flat.{place_from}

-- what is true of each element
abbrev pub Each : {A : Type 0} → (A → Type 0) → List A → Type 0
Each P [] = Unit {0}
Each P (x ∷ xs) = P x × Each P xs

pub each_append : {A : Type 0} (P : A → Type 0) (xs ys : List A) → Each P xs → Each P ys → Each P (xs ++ ys)
each_append P [] ys first second = second
each_append P (x ∷ xs) ys first second = (first.0, each_append P xs ys first.1 second)

pub each_weaker : {A : Type 0} (P Q : A → Type 0) (xs : List A) → ((x : A) → P x → Q x) → Each P xs → Each Q xs
each_weaker P Q [] to each = tt
each_weaker P Q (x ∷ xs) to each = (to x each.0, each_weaker P Q xs to each.1)

-- the instances of a path
abbrev pub trail_of : Path → List ℕ
trail_of (At trail name) = trail

pub name_same : (a b : Token) → bytes_eq a b ≡ bytes_eq b a
name_same a b = by (bytes_eq a b) (bytes_eq b a) refl refl
  where
    by : (x y : Bool) → bytes_eq a b ≡ x → bytes_eq b a ≡ y → x ≡ y
    by true true e f = refl
    by false false e f = refl
    by true false e f = let same : a ≡ b = (bytes_eq-Decides a b).0 e in let hit : bytes_eq b a ≡ true = rw same ((bytes_eq-Decides b b).1 refl) in absurd (cc)
    by false true e f = let same : b ≡ a = (bytes_eq-Decides b a).0 f in let hit : bytes_eq a b ≡ true = rw same ((bytes_eq-Decides a a).1 refl) in absurd (cc)

pub trail_same : (t : List ℕ) → same_trail t t ≡ true
trail_same t = (bytes_eq-Decides t t).1 refl

pub trail_other : (t u : List ℕ) → (t ≡ u → ⊥) → same_trail t u ≡ false
trail_other t u other = by (same_trail t u) refl
  where
    by : (b : Bool) → same_trail t u ≡ b → b ≡ false
    by true e = absurd (other ((bytes_eq-Decides t u).0 e))
    by false e = refl

-- two names of one instance
pub path_same : (t : List ℕ) (a b : Token) → same_path (At t a) (At t b) ≡ bytes_eq a b
path_same t a b = ap (λ x. x && bytes_eq a b) (trail_same t)

pub path_other : (t : List ℕ) (a : Token) (p : Path) → (t ≡ trail_of p → ⊥) → same_path (At t a) p ≡ false
path_other t a (At u b) other = ap (λ x. x && bytes_eq a b) (trail_other t u other)

-- a first place, and else another
abbrev pub or_place : Option ℕ → Option ℕ → Option ℕ
or_place (Some k) other = Some k
or_place None other = other

pub place_append : (n : ℕ) (ps qs : List Path) (r : Path) → place_from n (ps ++ qs) r ≡ or_place (place_from n ps r) (place_from (n + length ps) qs r)
place_append n [] qs r = let same : n + 0 ≡ n = omega arith in rw same refl
place_append n (p ∷ ps) qs r = by (place_append (n + 1) ps qs r) (same_path r p)
  where
    same : n + 1 + length ps ≡ n + suc (length ps)
    same = omega arith

    by : place_from (n + 1) (ps ++ qs) r ≡ or_place (place_from (n + 1) ps r) (place_from (n + 1 + length ps) qs r) → (b : Bool) → cond b (Some n) (place_from (n + 1) (ps ++ qs) r) ≡ or_place (cond b (Some n) (place_from (n + 1) ps r)) (place_from (n + suc (length ps)) qs r)
    by rest true = refl
    by rest false = rest ∙ ap (λ k. or_place (place_from (n + 1) ps r) (place_from k qs r)) same

pub place_kept : (n : ℕ) (ps qs : List Path) (r : Path) (k : ℕ) → place_from n ps r ≡ Some k → place_from n (ps ++ qs) r ≡ Some k
place_kept n ps qs r k found = place_append n ps qs r ∙ ap (λ o. or_place o (place_from (n + length ps) qs r)) found

pub none_among : (n : ℕ) (qs : List Path) (r : Path) → Each (λ q. same_path r q ≡ false) qs → place_from n qs r ≡ None
none_among n [] r each = refl
none_among n (q ∷ qs) r each = rw each.0 (none_among (n + 1) qs r each.1)

-- others do not change a place
pub place_past : (n : ℕ) (ps qs : List Path) (r : Path) → Each (λ q. same_path r q ≡ false) qs → place_from n (ps ++ qs) r ≡ place_from n ps r
place_past n ps qs r each = place_append n ps qs r ∙ (ap (or_place (place_from n ps r)) (none_among (n + length ps) qs r each) ∙ by (place_from n ps r))
  where
    by : (o : Option ℕ) → or_place o None ≡ o
    by None = refl
    by (Some k) = refl

-- names of the chosen model are found by the labels
pub place_named : (n : ℕ) (ps : List Path) (name : Token) → number_from n (map label_of ps) name ≡ place_from n ps (At [] name)
place_named n [] name = refl
place_named n (At [] other ∷ ps) name = ap (cond (bytes_eq name other) (Some n)) (place_named (n + 1) ps name)
place_named n (At (k ∷ ks) other ∷ ps) name = place_named (n + 1) ps name

pub prefix_push : (t : List ℕ) (n : ℕ) → prefix_of (t ++ n ∷ []) ≡ prefix_of t ++ (decimal n ++ codes "/")
prefix_push [] n = refl
prefix_push (k ∷ ks) n = ap (λ (p : List ℕ). decimal k ++ (codes "/" ++ p)) (prefix_push ks n) ∙ (ap (λ (p : List ℕ). decimal k ++ p) (sym (append_assoc (codes "/") (prefix_of ks) (decimal n ++ codes "/"))) ∙ sym (append_assoc (decimal k) (codes "/" ++ prefix_of ks) (decimal n ++ codes "/")))

-- a trail is none of those that go on from it
pub no_longer : (t : List ℕ) (k : ℕ) (rest : List ℕ) → t ≡ t ++ k ∷ rest → ⊥
no_longer t k rest same = omega (arith, ap length same, length-append t (k ∷ rest))

head_same : (a b : ℕ) (xs ys : List ℕ) → ◌≡◌ {A = List ℕ} (a ∷ xs) (b ∷ ys) → a ≡ b
head_same a b xs ys e = cc

-- two ways on from a trail begin with one instance
pub next_same : (t : List ℕ) (a b : ℕ) (xs ys : List ℕ) → t ++ a ∷ xs ≡ t ++ b ∷ ys → a ≡ b
next_same t a b xs ys same = head_same a b xs ys (append_same t (a ∷ xs) (b ∷ ys) same)
