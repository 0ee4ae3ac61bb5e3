-- That a modulus and coefficients name a field or have a fault. Source: Lidl and Niederreiter, Finite Fields, chapter 1.
use Rattle.std.specs.Prelude.{◌≡◌, ℕ, List, []}
use Rattle.job_input.specs.FieldOf.{FieldOf}
use Rattle.job_laws.specs.HasOutcome.{HasOutcome}

-- where a second step stands only over a first one, there is a field or a fault
abbrev pub HaveFields : Type 0
HaveFields = (modulus : ℕ) (tower upper : List ℕ) → (tower ≡ [] → upper ≡ []) → HasOutcome (FieldOf modulus tower upper)
