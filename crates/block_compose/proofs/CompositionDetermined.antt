-- A top has one composition at most.
use Rattle.std.proofs.Common.{ℕ, List, Ok}
use Rattle.outcome.specs.Outcome.{◌>>=◌, Determined, Within}
use Rattle.outcome.proofs.DeterminedLemmas.{determined_after, determined_within}
use Rattle.net_signature.specs.Signature.{SignatureValue}
use Rattle.net_blif.specs.Design.{ModelValue}
use Rattle.net_blif.specs.Models.{AreRight}
use Rattle.gf_field.specs.Field.{HasNoZeroDivisors}
use Rattle.gf_field.specs.Ring.{IsRing}
use Rattle.gf_basis.specs.declared.bases.Basis.{Basis}
use Rattle.compose_model.specs.Hierarchy.{Hierarchy}
use Rattle.compose_blocks.specs.Plan.{UsesOf}
use Rattle.compose_blocks.proofs.PlanDetermined.{plan_determined}
use Rattle.block_compose.specs.Composed.{fault_of_plan, fault_of_wiring, hierarchy_of, Composes, HasNoCycle, IsComposable, StagesOf, WiringOf}
use Rattle.block_compose.proofs.GivenLemmas.{have_blocks, is_given}
use Rattle.block_compose.proofs.StepsDetermined.{cycle_determined, stages_determined, wiring_determined}

pub one_composition : (k : ℕ) (mul : ℕ → ℕ → ℕ) (design : List ModelValue) (signature : SignatureValue) (bases : List (List Basis)) (bound : ℕ) → IsRing k mul → HasNoZeroDivisors k mul → AreRight design (Ok tt) → IsComposable k mul design signature bases → Determined (Composes k mul design signature bases bound)
one_composition k mul design signature bases bound ring field right given =
    let h : Hierarchy = hierarchy_of design signature bases in
    determined_after (Within fault_of_plan (UsesOf design signature)) (λ uses. Within fault_of_wiring (WiringOf h) >>= (λ wiring. HasNoCycle wiring.0 >>= (λ acyclic. StagesOf k mul h wiring.0 bound))) (determined_within fault_of_plan (UsesOf design signature) (plan_determined design signature)) (λ uses are.
    determined_after (Within fault_of_wiring (WiringOf h)) (λ wiring. HasNoCycle wiring.0 >>= (λ acyclic. StagesOf k mul h wiring.0 bound)) (determined_within fault_of_wiring (WiringOf h) (wiring_determined h)) (λ wiring wired.
    determined_after (HasNoCycle wiring.0) (λ acyclic. StagesOf k mul h wiring.0 bound) (cycle_determined wiring.0) (λ acyclic free.
    stages_determined k mul h wiring.0 bound ring field (is_given k mul design signature bases given are.1 wiring.0 wiring.1 right wired) wired.feeds (have_blocks k mul design signature bases uses are.2.2.2) free)))
