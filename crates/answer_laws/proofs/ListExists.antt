-- Values of all elements of a list, or the first fault.
use Rattle.std.proofs.Common.{◌≡◌, refl, subst, ℕ, zero, suc, ◌<◌, List, [], ◌∷◌, Some, Result, Ok, Err, arith}
use Rattle.std.specs.Prelude.{slice_get}
use Rattle.lists.specs.Lists.{Has}
use Rattle.lists.specs.laws.HasLaws.{none_at}
use Rattle.outcome.specs.ForEach.{ForEach}
use Rattle.outcome.specs.Outcome.{Outcome}
use Rattle.job_laws.specs.HasOutcome.{HasOutcome}

module _ {X A F : Type 0} (may : X → Outcome F A) where
  one_more : (x : X) (xs : List X) (value : A) → may x (Ok value) → (outcome : Result (List A) F) → ForEach may xs outcome → HasOutcome (ForEach may (x ∷ xs))
  one_more x xs value is (Ok values) are = (Ok (value ∷ values), record { long = omega (arith, are.long); each = each })
    where
      each : (i : ℕ) (y : X) (v : A) → slice_get (x ∷ xs) i ≡ Some y → slice_get (value ∷ values) i ≡ Some v → may y (Ok v)
      each zero y v at got =
          let same : x ≡ y = cc in
          let equal : value ≡ v = cc in
          let P : X → Type 0 = λ z. may z (Ok v) in
          let Q : A → Type 0 = λ w. may x (Ok w) in
          subst P same (subst Q equal is)
      each (suc i) y v at got = are.each i y v at got
  one_more x xs value is (Err fault) first = (Err fault, record { place = suc first.place; element = first.element; at = first.at; is = first.is; before = before })
    where
      before : (i : ℕ) (y : X) → i < suc first.place → slice_get (x ∷ xs) i ≡ Some y → (v : A) × may y (Ok v)
      before zero y less at = let same : x ≡ y = cc in let P : X → Type 0 = λ z. (v : A) × may z (Ok v) in subst P same (value, is)
      before (suc i) y less at = first.before i y (omega (arith, less)) at

  by_first : (x : X) (xs : List X) (outcome : Result A F) → may x outcome → HasOutcome (ForEach may xs) → HasOutcome (ForEach may (x ∷ xs))
  by_first x xs (Ok value) is rest = one_more x xs value is rest.0 rest.1
  by_first x xs (Err fault) is rest = (Err fault, record { place = 0; element = x; at = refl; is = is; before = λ i y less at. absurd (omega (arith, less)) })

  pub some_for_each : (xs : List X) → ((x : X) → Has xs x → HasOutcome (may x)) → HasOutcome (ForEach may xs)
  some_for_each [] each = (Ok [], record { long = refl; each = λ i x value at got. absurd (none_at x (i, at)) })
  some_for_each (x ∷ xs) each = let first = each x (0, refl) in by_first x xs first.0 first.1 (some_for_each xs (λ y has. each y (suc has.0, has.1)))
