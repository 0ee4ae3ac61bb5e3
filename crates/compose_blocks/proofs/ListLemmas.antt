-- Lists, values for each element, and refusals.
use Rattle.std.proofs.Common.{◌≡◌, ap, refl, subst, ℕ, zero, suc, ◌<◌, ◌+◌, List, [], ◌∷◌, ◌++◌, length, replicate, true, false, get_or, Option, None, Some, Err, arith}
use Rattle.std.specs.Prelude.{is_some, slice_get}
use Rattle.lists.specs.laws.ReadLaws.{got_read}
use Rattle.outcome.specs.Outcome.{MayRefuse, Outcome}

-- what refuses one outcome refuses another
pub lifted : {F A B : Type 0} (first : Outcome F A) (second : Outcome F B) → ((fault : F) → first (Err fault) → second (Err fault)) → (fault : Option F) → MayRefuse first fault → MayRefuse second fault
lifted first second lift None may = tt
lifted first second lift (Some fault) may = lift fault may

module _ {X : Type 0} where
  -- an element of the front is one of the whole, and the other way round
  pub front_read : (xs ys : List X) (i : ℕ) (x : X) → i < length xs → slice_get (xs ++ ys) i ≡ Some x → slice_get xs i ≡ Some x
  front_read [] ys i x less got = absurd (omega (arith, less))
  front_read (y ∷ xs) ys zero x less got = got
  front_read (y ∷ xs) ys (suc i) x less got = front_read xs ys i x (omega (arith, less)) got

  pub none_read : (n i : ℕ) (x : X) → slice_get (replicate n None) i ≡ Some (Some x) → ⊥
  none_read zero i x got = absurd (cc)
  none_read (suc n) zero x got = let other : None ≡ Some x = cc in absurd (cc)
  none_read (suc n) (suc i) x got = none_read n i x got

  pub replicated : (n : ℕ) (x : X) → length (replicate n x) ≡ n
  replicated zero x = refl
  replicated (suc n) x = ap suc (replicated n x)

-- one value for each element
pub chosen : {X A : Type 0} (xs : List X) (P : ℕ → A → Type 0) → ((i : ℕ) (x : X) → slice_get xs i ≡ Some x → (a : A) × P i a) → (values : List A) × (length values ≡ length xs) × ((i : ℕ) (a : A) → slice_get values i ≡ Some a → P i a)
chosen [] P each = ([], refl, λ i a got. absurd (cc))
chosen {A = A} (x ∷ xs) P each =
    let rest = chosen xs (λ i. P (suc i)) (λ i y got. each (suc i) y got) in
    let first = each zero x refl in
    (first.0 ∷ rest.0, ap suc rest.1, holds first.0 rest.0 first.1 rest.2)
  where
    holds : (a : A) (values : List A) → P 0 a → ((i : ℕ) (b : A) → slice_get values i ≡ Some b → P (suc i) b) → (i : ℕ) (b : A) → slice_get (a ∷ values) i ≡ Some b → P i b
    holds a values here later zero b got = let same : a ≡ b = cc in subst (P 0) same here
    holds a values here later (suc i) b got = later i b got

module _ {X : Type 0} where
  -- an element that is there
  pub some_read : (xs : List (Option X)) (i : ℕ) (x : Option X) → i < length xs → x ≡ get_or xs i x → is_some x ≡ true → (y : X) × (slice_get xs i ≡ Some (Some y))
  some_read xs i None less is some = absurd (cc)
  some_read xs i (Some y) less is some = (y, got_read xs i (Some y) less is)

  pub none_at : (xs : List (Option X)) (i : ℕ) (x : Option X) → i < length xs → x ≡ get_or xs i x → is_some x ≡ false → slice_get xs i ≡ Some None
  none_at xs i None less is none = got_read xs i None less is
  none_at xs i (Some y) less is none = absurd (cc)
