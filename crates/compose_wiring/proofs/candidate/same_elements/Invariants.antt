use Rattle.std.proofs.Common.{◌≡◌, drop}
use Rattle.gf_basis.specs.BasisParts.{elements_of}
use Rattle.compose_wiring.specs.private.Linked.{same_elements}
use Rattle.compose_wiring.proofs.candidate.same_elements.Given as goal

abbrev pub invariant-loop-place : goal.invariant-loop-place
invariant-loop-place l = same_elements (elements_of l.a) (elements_of l.b) ≡ same_elements (drop l.place (elements_of l.a)) (drop l.place (elements_of l.b))
