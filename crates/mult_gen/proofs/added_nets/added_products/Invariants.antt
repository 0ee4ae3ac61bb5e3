-- The rows so far.
use Rattle.std.proofs.Common.{◌≡◌, ◌+◌, ◌*◌}
use Rattle.gf_field.specs.Ring2k.{modulus_of}
use Rattle.irreducible.specs.Proved.{ring_of}
use Rattle.make_nets.specs.Plan.{gathered}
use Rattle.mult_gen.specs.Chains.{added_row}
use Rattle.mult_gen.proofs.added_nets.added_products.Given as goal

abbrev pub invariant-loop-i : goal.invariant-loop-i
invariant-loop-i l = l.list.items ≡ gathered l.i (λ i. added_row l.k (modulus_of (ring_of l.ring)) (l.first + i * l.k) i l.l l.k)
