use Rattle.std.proofs.Common.{◌≡◌, ◌≤◌, ◌+◌, ◌*◌, ◌/◌, ◌%◌, ◌∷◌, length}
use Rattle.std.specs.Prelude.{slice_index, ◌==◌}
use Rattle.std.specs.Int.{bit_at}
use Rattle.gf_field.specs.Bit.{bit_mul}
use Rattle.gf_field.specs.Polynomial.{coefficient}
use Rattle.gf_field.specs.Quotient.{product}
use Rattle.gf_field.specs.Ring2k.{modulus_of}
use Rattle.irreducible.specs.Proved.{ring_of}
use Rattle.make_laws.specs.ProductBits.{x_to}
use Rattle.make_nets.specs.Plan.{gathered, where_so}
use Rattle.mult_composite.proofs.added_nets.added_sums.Given as goal

abbrev pub invariant-loop-q : goal.invariant-loop-q
invariant-loop-q l =
    (l.list.items ≡ slice_index l.sums (l.e * l.n + l.l) ∷ gathered l.q (λ q. where_so (bit_at (product 1 l.n bit_mul (modulus_of (ring_of l.base)) (x_to l.n (modulus_of (ring_of l.base)) (q % l.n)) (coefficient l.n (slice_index l.powers (q / l.n)) l.e)) l.l == 1) (slice_index l.sums (l.m * l.n + q))))
    × (length l.list.items ≤ l.q + 1)
