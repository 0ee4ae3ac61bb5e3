-- That of the stages of a sum of products, and of a specification, one is the first over a bound, or none is. Source: this project's own.
use Rattle.std.specs.Prelude.{ℕ, List}
use Rattle.poly_mixed.specs.Polynomial.{Point}
use Rattle.circuit_model.specs.Circuit.{Circuit}
use Rattle.circuit_model.specs.WellFormed.{IsWellFormed}
use Rattle.stage_model.specs.Listing.{AreWithinOrOver, Listing}
use Rattle.stage_model.specs.Stage.{HasPolynomial}
use Rattle.term_expand.specs.SumListing.{is_earlier_sum_stage, is_sum_stage, sum_listing, sum_stage_of}
use Rattle.term_expand.specs.Sums.{SumOfProducts}
use Rattle.term_expand.specs.declared.stage.SumStage.{SumStage}
use Rattle.spec_expand.specs.SpecListing.{spec_listing}
use Rattle.spec_expand.specs.Specification.{SpecTerms}

-- the stages of a sum by name, with these relations
abbrev pub stages_with : SumOfProducts → (SumStage → Point → ℕ → Type 0) → Listing SumStage
stages_with sum stage = record { is_listed = is_sum_stage sum; stage_of = stage; comes_before = is_earlier_sum_stage }

-- of a sum each of whose stages has a polynomial
abbrev pub AreSumsDecided : Type 0
AreSumsDecided =
    (k : ℕ) (mul : ℕ → ℕ → ℕ) (feeds : Point → List ℕ) (sum : SumOfProducts) (bound : ℕ)
    → ((name : SumStage) → is_sum_stage sum name → HasPolynomial k mul (sum_stage_of mul feeds sum name))
    → AreWithinOrOver k mul (sum_listing mul feeds sum) bound

-- of a specification over a well-formed circuit
abbrev pub AreSpecificationsDecided : Type 0
AreSpecificationsDecided = (circuit : Circuit) (spec : SpecTerms) (bound : ℕ) → IsWellFormed circuit → AreWithinOrOver circuit.k circuit.product (spec_listing circuit spec) bound
