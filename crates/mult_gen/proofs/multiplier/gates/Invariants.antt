-- The chains so far.
use Rattle.std.proofs.Common.{◌≡◌, ◌+◌, ◌*◌, ◌≤◌, Some, get_or}
use Rattle.gf_field.specs.Ring2k.{modulus_of}
use Rattle.irreducible.specs.Proved.{ring_of}
use Rattle.make_nets.specs.Plan.{begun, each, with_chain}
use Rattle.mult_gen.specs.Chains.{added_products, products}
use Rattle.mult_gen.proofs.multiplier.gates.Given as goal

abbrev pub invariant-loop-l : goal.invariant-loop-l
invariant-loop-l l =
    (l.plan ≡ each l.l (λ i. with_chain (Some (get_or l.z i 0)) (added_products l.k (modulus_of (ring_of l.ring)) l.outer i)) (products l.k l.a l.b (begun l.outer)))
    × (l.plan.next ≤ l.outer + 4096 + l.l * 4097)
