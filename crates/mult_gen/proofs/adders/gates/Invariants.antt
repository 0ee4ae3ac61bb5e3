-- The bits so far.
use Rattle.std.proofs.Common.{◌≡◌, Some, get_or}
use Rattle.make_nets.specs.Plan.{begun, each, with_xor}
use Rattle.mult_gen.proofs.adders.gates.Given as goal

abbrev pub invariant-loop-i : goal.invariant-loop-i
invariant-loop-i l = l.plan ≡ each l.i (λ i. with_xor (Some (get_or l.z i 0)) (get_or l.a i 0) (get_or l.b i 0)) (begun l.outer)
