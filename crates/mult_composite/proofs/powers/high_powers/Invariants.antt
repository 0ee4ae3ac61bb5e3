use Rattle.std.proofs.Common.{◌≡◌, length}
use Rattle.gf_field.specs.Bit.{bit_mul}
use Rattle.gf_field.specs.Quotient.{product}
use Rattle.gf_field.specs.Ring2k.{modulus_of}
use Rattle.irreducible.specs.Proved.{ring_of}
use Rattle.gf_tower.specs.Tower.{tower_polynomial}
use Rattle.gf_tower.specs.TowerParts.{base_of, coefficients_of}
use Rattle.mult_composite.specs.private.HighPowers.{powers_from}
use Rattle.mult_composite.proofs.powers.high_powers.Given as goal

abbrev pub invariant-loop-i : goal.invariant-loop-i
invariant-loop-i l =
    (l.powers.items ≡ powers_from l.n l.m (product 1 l.n bit_mul (modulus_of (ring_of (base_of l.tower)))) (tower_polynomial l.n (coefficients_of l.tower)) l.i)
    × (length l.powers.items ≡ l.i)
