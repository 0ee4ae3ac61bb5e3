-- There is at most one first number that is no element, and none among elements.
use Rattle.std.proofs.Common.{◌≡◌, ℕ, arith, inl, inr, List}
use Rattle.std.proofs.lemmas.Bool.{cases_eq, cases_lt}
use Rattle.gf_field.specs.Element.{AreElements, IsFirstOutside}

pub first_clash : (n : ℕ) (cs : List ℕ) (place : ℕ) → AreElements n cs → IsFirstOutside n cs place → ⊥
first_clash n cs place all first = let low = all place first.within in let high = first.outside in absurd (omega arith)

pub first_unique : (n : ℕ) (cs : List ℕ) (p q : ℕ) → IsFirstOutside n cs p → IsFirstOutside n cs q → p ≡ q
first_unique n cs p q f g = elim (cases_eq p q) [
  | inl same ↦ same
  | inr other ↦ elim (cases_lt p q) [
    | inl less ↦ let low = g.before p less in let high = f.outside in absurd (omega arith)
    | inr more ↦ let low = f.before q (omega arith) in let high = g.outside in absurd (omega arith)
  ]
]
