-- The powers so far.
use Rattle.std.proofs.Common.{◌≡◌, ◌<◌, ℕ, length, get_or}
use Rattle.gf_field.specs.Ring2k.{degree_of, modulus_of}
use Rattle.irreducible.specs.Proved.{ring_of}
use Rattle.make_laws.specs.ProductBits.{x_to}
use Rattle.mult_gen.proofs.powers.powers_of_x.Given as goal

abbrev pub invariant-loop-e : goal.invariant-loop-e
invariant-loop-e l =
    (length l.powers.items ≡ l.e)
    × ((e : ℕ) → e < l.e → get_or l.powers.items e 0 ≡ x_to (degree_of (ring_of l.ring)) (modulus_of (ring_of l.ring)) e)
