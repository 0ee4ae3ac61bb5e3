-- Texts that were seen, after one more.
use Rattle.std.proofs.Common.{◌≡◌, ◌∙◌, ap, sym, refl, ℕ, ◌/◌, ◌%◌, ◌==◌, ◌&&◌, ◌||◌, List, [], ◌∷◌, ◌++◌, Bool, true, false, cond, Option, Some, String, string_bytes, arith}
use Rattle.std.specs.Prelude.{is_some}
use Rattle.std.specs.HashMap.{HashMap, IsEmpty, get_by_text}
use Rattle.std.specs.List.{list_any}
use Rattle.std.specs.Map.{lookup}
use Rattle.std.specs.Str.{bytes_eq}
use Rattle.std.proofs.lemmas.Bool.{eqb-true, eq-eqb}
use Rattle.lists.specs.laws.BoolLaws.{or_swap}
use Rattle.net_words.specs.declared.feed.FeedText.{FeedText}
use Rattle.net_signature.specs.Body.{is_feed_of}
use Rattle.net_signature.specs.private.Seen.{feed_key, has_key}

pub some_cond : {X : Type 0} (b : Bool) (x : X) (o : Option X) → is_some (cond b (Some x) o) ≡ (b || is_some o)
some_cond true x o = refl
some_cond false x o = refl

any_push : {X : Type 0} (p : X → Bool) (xs : List X) (x : X) → list_any p (xs ++ x ∷ []) ≡ (p x || list_any p xs)
any_push p [] x = refl
any_push p (y ∷ ys) x = ap (λ b. p y || b) (any_push p ys x) ∙ or_swap (p y) (p x) (list_any p ys)

-- a list with one more element passes a test where the element does or the list did
pub seen_more : {X : Type 0} (p : X → Bool) (xs new : List X) (x : X) (here before after : Bool) → new ≡ xs ++ x ∷ [] → here ≡ p x → before ≡ list_any p xs → after ≡ (here || before) → after ≡ list_any p new
seen_more p xs new x here before after pushed is was step = step ∙ rw (is, was) (sym (ap (list_any p) pushed ∙ any_push p xs x))

-- where nothing is left, nothing is seen
pub none_seen : {X Y V S : Type 0} (p : X → Bool) (xs : List X) (q : List ℕ) (seen : HashMap (String Y) V S) → IsEmpty seen → xs ≡ [] → is_some (get_by_text seen q) ≡ list_any p xs
none_seen {Y = Y} {V = V} p xs q seen empty none = ap (λ (entries : List (String Y × V)). is_some (lookup (λ (k : String Y). bytes_eq q (string_bytes k)) entries)) empty ∙ sym (ap (list_any p) none)

pub any_same : {X : Type 0} (p q : X → Bool) → ((x : X) → p x ≡ q x) → (xs : List X) → list_any p xs ≡ list_any q xs
any_same p q same [] = refl
any_same p q same (x ∷ xs) = rw (same x, any_same p q same xs) refl

parts : (a b : ℕ) (x y z : Bool) → (a / 64 == b / 64) ≡ x → (a % 64 == b % 64) ≡ y → (a == b) ≡ z → (x && y) ≡ z
parts a b true true true e f g = refl
parts a b true true false e f g = absurd (let d = eqb-true (a / 64) (b / 64) e in let m = eqb-true (a % 64) (b % 64) f in let same : a ≡ b = omega (arith, d, m) in let hit = eq-eqb a b same in cc)
parts a b true false true e f g = absurd (let same = eqb-true a b g in let m : a % 64 ≡ b % 64 = ap (λ n. n % 64) same in let hit = eq-eqb (a % 64) (b % 64) m in cc)
parts a b true false false e f g = refl
parts a b false y true e f g = absurd (let same = eqb-true a b g in let d : a / 64 ≡ b / 64 = ap (λ n. n / 64) same in let hit = eq-eqb (a / 64) (b / 64) d in cc)
parts a b false y false e f g = refl

assoc : (x y z : Bool) → (x && (y && z)) ≡ (z && (x && y))
assoc true true true = refl
assoc true true false = refl
assoc true false true = refl
assoc true false false = refl
assoc false y true = refl
assoc false y false = refl

-- the key tells net and cycle
pub key_tells : (net : List ℕ) (cycle : ℕ) (feed : FeedText) → has_key (feed_key net cycle) feed ≡ is_feed_of net cycle feed
key_tells net cycle feed =
    assoc (feed.cycle / 64 == cycle / 64) (feed.cycle % 64 == cycle % 64) (bytes_eq feed.net net)
    ∙ ap (λ b. bytes_eq feed.net net && b) (parts feed.cycle cycle (feed.cycle / 64 == cycle / 64) (feed.cycle % 64 == cycle % 64) (feed.cycle == cycle) refl refl refl)
