-- Laws of elements by their places, also after a push or a write.
use Rattle.std.proofs.Common.{◌≡◌, ◌≢◌, ◌⊎◌, ◌∙◌, ap, sym, refl, inl, inr, subst, ℕ, zero, suc, ◌<◌, ◌≤◌, ◌+◌, ◌-◌, List, [], ◌∷◌, ◌++◌, length, map, reverse, None, Some, arith, get_or}
use Rattle.std.specs.Prelude.{slice_get}
use Rattle.std.specs.List.{AllByRecursion}
use Rattle.std.proofs.Math.ListN.{set}
use Rattle.std.proofs.lemmas.List.{length-reverse, get_or-reverse}
use Rattle.std.proofs.lemmas.Option.{slice_get_within, slice_get-get_or, get_or_from_slice_get}

module _ {A : Type 0} where
  pub got_push : (xs : List A) (y : A) (k : ℕ) (z : A) → slice_get (xs ++ y ∷ []) k ≡ Some z → ((slice_get xs k ≡ Some z) × (k < length xs)) ⊎ ((k ≡ length xs) × (z ≡ y))
  got_push [] y zero z got = inr (refl, cc)
  got_push [] y (suc k) z got = absurd (cc)
  got_push (x ∷ xs) y zero z got = inl (got, omega arith)
  got_push (x ∷ xs) y (suc k) z got = elim (got_push xs y k z got) [ inl w ↦ inl (w.0, omega arith) | inr w ↦ inr (omega arith, w.1) ]

  pub get_front : (xs ys : List A) (k : ℕ) (z : A) → slice_get xs k ≡ Some z → slice_get (xs ++ ys) k ≡ Some z
  get_front [] ys k z got = absurd (cc)
  get_front (x ∷ xs) ys zero z got = got
  get_front (x ∷ xs) ys (suc k) z got = get_front xs ys k z got

  pub get_here : (xs : List A) (y : A) (ys : List A) → slice_get (xs ++ y ∷ ys) (length xs) ≡ Some y
  get_here [] y ys = refl
  get_here (x ∷ xs) y ys = get_here xs y ys

  pub got_set : (xs : List A) (i : ℕ) (y : A) (k : ℕ) (z : A) → slice_get (set xs i y) k ≡ Some z → ((k ≡ i) × (z ≡ y)) ⊎ ((k ≢ i) × (slice_get xs k ≡ Some z))
  got_set [] i y k z got = absurd (cc)
  got_set (x ∷ xs) zero y zero z got = inl (refl, cc)
  got_set (x ∷ xs) zero y (suc k) z got = inr ((λ e. omega arith), got)
  got_set (x ∷ xs) (suc i) y zero z got = inr ((λ e. omega arith), got)
  got_set (x ∷ xs) (suc i) y (suc k) z got = elim (got_set xs i y k z got) [ inl w ↦ inl (omega arith, w.1) | inr w ↦ inr ((λ e. w.0 (omega arith)), w.1) ]

  pub get_set_other : (xs : List A) (i : ℕ) (y : A) (k : ℕ) (z : A) → (k ≡ i → ⊥) → slice_get xs k ≡ Some z → slice_get (set xs i y) k ≡ Some z
  get_set_other [] i y k z other got = got
  get_set_other (x ∷ xs) zero y zero z other got = absurd (other refl)
  get_set_other (x ∷ xs) zero y (suc k) z other got = got
  get_set_other (x ∷ xs) (suc i) y zero z other got = got
  get_set_other (x ∷ xs) (suc i) y (suc k) z other got = get_set_other xs i y k z (λ e. other (omega arith)) got

  pub get_set_same : (xs : List A) (i : ℕ) (x y : A) → slice_get xs i ≡ Some x → slice_get (set xs i y) i ≡ Some y
  get_set_same [] i x y got = absurd (cc)
  get_set_same (x' ∷ xs) zero x y got = refl
  get_set_same (x' ∷ xs) (suc i) x y got = get_set_same xs i x y got

  pub get_none : (xs : List A) (k : ℕ) → slice_get xs k ≡ None → length xs ≤ k
  get_none [] k none = omega arith
  get_none (x ∷ xs) zero none = absurd (cc)
  get_none (x ∷ xs) (suc k) none = omega (arith, get_none xs k none)

  pub get_below : (xs : List A) (k : ℕ) → k < length xs → (z : A) × (slice_get xs k ≡ Some z)
  get_below [] k below = absurd (omega arith)
  get_below (x ∷ xs) zero below = (x, refl)
  get_below (x ∷ xs) (suc k) below = get_below xs k (omega arith)

  pub got_read : (xs : List A) (k : ℕ) (x : A) → k < length xs → x ≡ get_or xs k x → slice_get xs k ≡ Some x
  got_read [] k x below is = absurd (omega arith)
  got_read (y ∷ xs) zero x below is = ap Some (sym is)
  got_read (y ∷ xs) (suc k) x below is = got_read xs k x (omega arith) is

  -- a read within the list
  pub got_at : (xs : List A) (k : ℕ) (x d : A) → k < length xs → get_or xs k d ≡ x → slice_get xs k ≡ Some x
  got_at [] k x d below is = absurd (omega arith)
  got_at (y ∷ ys) zero x d below is = ap Some is
  got_at (y ∷ ys) (suc k) x d below is = got_at ys k x d (omega arith) is

  pub get_back : (xs ys : List A) (k : ℕ) (z : A) → slice_get ys k ≡ Some z → slice_get (xs ++ ys) (length xs + k) ≡ Some z
  get_back [] ys k z got = let e : 0 + k ≡ k = omega arith in rw e got
  get_back (x ∷ xs) ys k z got = let e : suc (length xs) + k ≡ suc (length xs + k) = omega arith in rw e (get_back xs ys k z got)

  -- what all have, each element has
  pub all_at : (P : A → Type 0) (xs : List A) (k : ℕ) (x : A) → AllByRecursion P xs → slice_get xs k ≡ Some x → P x
  all_at P [] k x all got = absurd (cc)
  all_at P (y ∷ ys) zero x all got = let same : y ≡ x = cc in subst P same all.0
  all_at P (y ∷ ys) (suc k) x all got = all_at P ys k x all.1 got

-- lists that agree place by place
pub same_lists : {X : Type 0} (v w : List X) → length v ≡ length w → ((k : ℕ) (a b : X) → slice_get v k ≡ Some a → slice_get w k ≡ Some b → a ≡ b) → v ≡ w
same_lists [] [] long same = refl
same_lists [] (y ∷ ys) long same = absurd (omega arith)
same_lists (x ∷ xs) [] long same = absurd (omega arith)
same_lists (x ∷ xs) (y ∷ ys) long same =
    let head : x ≡ y = same 0 x y refl refl in
    let tail : xs ≡ ys = same_lists xs ys (omega arith) (λ k a b first second. same (suc k) a b first second) in
    rw (head, tail) refl

-- ---- images

pub from_map : {X Y : Type 0} (f : X → Y) (xs : List X) (k : ℕ) (y : Y) → slice_get (map f xs) k ≡ Some y → (x : X) × (slice_get xs k ≡ Some x) × (f x ≡ y)
from_map f [] k y got = absurd (cc)
from_map f (x ∷ xs) zero y got = (x, refl, cc)
from_map f (x ∷ xs) (suc k) y got = from_map f xs k y got

pub mapped_at : {A B : Type 0} (g : A → B) (xs : List A) (i : ℕ) (x : A) → slice_get xs i ≡ Some x → slice_get (map g xs) i ≡ Some (g x)
mapped_at g [] i x got = absurd (cc)
mapped_at g (y ∷ xs) zero x got = let same : y ≡ x = cc in ap (λ z. Some (g z)) same
mapped_at g (y ∷ xs) (suc i) x got = mapped_at g xs i x got

-- ---- the other way round

pub got_reversed : (order : List ℕ) (i p : ℕ) → slice_get order i ≡ Some p → slice_get (reverse order) (length order - 1 - i) ≡ Some p
got_reversed order i p at =
    let less : i < length order = slice_get_within order i p at in
    let long : length (reverse order) ≡ length order = length-reverse order in
    let place : length order - 1 - (length order - 1 - i) ≡ i = omega arith in
    let there : slice_get (reverse order) (length order - 1 - i) ≡ Some (get_or (reverse order) (length order - 1 - i) 0) = slice_get-get_or (reverse order) (length order - 1 - i) 0 (omega arith) in
    there ∙ ap Some (get_or-reverse order (length order - 1 - i) 0 (omega arith) ∙ ap (λ k. get_or order k 0) place ∙ get_or_from_slice_get order i p 0 at)
