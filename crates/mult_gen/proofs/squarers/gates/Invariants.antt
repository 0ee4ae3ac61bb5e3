-- The chains so far.
use Rattle.std.proofs.Common.{◌≡◌, ◌+◌, ◌*◌, ◌≤◌, Some, get_or}
use Rattle.gf_field.specs.Ring2k.{modulus_of}
use Rattle.irreducible.specs.Proved.{ring_of}
use Rattle.make_nets.specs.Plan.{begun, each, with_chain}
use Rattle.mult_gen.specs.Chains.{added_bits}
use Rattle.mult_gen.proofs.squarers.gates.Given as goal

abbrev pub invariant-loop-l : goal.invariant-loop-l
invariant-loop-l l =
    (l.plan ≡ each l.l (λ i. with_chain (Some (get_or l.z i 0)) (added_bits l.k (modulus_of (ring_of l.ring)) l.a i)) (begun l.outer))
    × (l.plan.next ≤ l.outer + l.l * 65)
