-- The bits so far.
use Rattle.std.proofs.Common.{◌≡◌, ◌==◌, ◌*◌, length, get_or}
use Rattle.std.specs.Int.{bit_at}
use Rattle.gf_field.specs.Ring2k.{modulus_of}
use Rattle.irreducible.specs.Proved.{ring_of}
use Rattle.make_laws.specs.ProductBits.{x_to}
use Rattle.make_nets.specs.Plan.{gathered, where_so}
use Rattle.mult_gen.proofs.added_nets.added_bits.Given as goal

abbrev pub invariant-loop-i : goal.invariant-loop-i
invariant-loop-i l = l.list.items ≡ gathered l.i (λ i. where_so (bit_at (x_to (length l.a) (modulus_of (ring_of l._ring)) (2 * i)) l.l == 1) (get_or l.a i 0))
