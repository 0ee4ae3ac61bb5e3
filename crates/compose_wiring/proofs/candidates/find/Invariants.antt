use Rattle.std.proofs.Common.{length}
use Rattle.gf_basis.specs.BasisParts.{elements_of}
use Rattle.compose_wiring.proofs.LinkedLemmas.{left_after, IsSearch}
use Rattle.compose_wiring.proofs.candidates.find.Given as goal

abbrev pub invariant-loop-at : goal.invariant-loop-at
invariant-loop-at l = IsSearch l.list l.nets (elements_of l.basis) l.at

abbrev pub decreases-loop-at : goal.decreases-loop-at
decreases-loop-at l = left_after (length l.list) l.at
