use Rattle.std.proofs.Common.{◌≡◌, ◌∙◌, sym, ap, ◌<◌, ◌^◌, arith, length}
use Rattle.gf_field.specs.Ring2k.{degree_of, modulus_of}
use Rattle.irreducible.specs.Proved.{ring_of}
use Rattle.gf_tower.specs.TowerParts.{base_of, coefficients_of}
use Rattle.gf_iso.proofs.FieldsLaws.{tower_field_of, modulus_word}
use Rattle.gf_iso.proofs.isos.Iso.find.Goals as goal

pub overflow_cast-modulus : goal.overflow_cast-modulus
overflow_cast-modulus c =
    let n_is : c.k-n.result ≡ degree_of (ring_of (base_of (ring_of c.args.tower.now))) = rw (← c.ring.ensures, ← c.base-base.ensures) c.k-n.ensures in
    let g_is : c.modulus-modulus.result ≡ modulus_of (ring_of (base_of (ring_of c.args.tower.now))) = rw (← c.ring.ensures, ← c.base-base.ensures, ← c.ring-3.ensures) c.modulus-modulus.ensures in
    let word : c.modulus-modulus.result < 2 ^ 64 = rw (g_is) (modulus_word _ _ c.args.tower.now.ring.base.ring.fits (rw (n_is) at c.if-n-gt16.false)) in
    omega arith

pub found-requires-clause-tower : goal.found-requires-clause-tower
found-requires-clause-tower c =
    let n_is : c.k-n.result ≡ degree_of (ring_of (base_of (ring_of c.args.tower.now))) = rw (← c.ring.ensures, ← c.base-base.ensures) c.k-n.ensures in
    let g_is : c.modulus-modulus.result ≡ modulus_of (ring_of (base_of (ring_of c.args.tower.now))) = rw (← c.ring.ensures, ← c.base-base.ensures, ← c.ring-3.ensures) c.modulus-modulus.ensures in
    let cs_is : c.coefficients-coefficients.result.now ≡ coefficients_of (ring_of c.args.tower.now) = rw (← c.ring-2.ensures) c.coefficients-coefficients.ensures in
    let two : c.args.tower.now.ring.length ≡ 2 = sym c.args.tower.now.ring.fits.size ∙ ap length (sym cs_is) ∙ c.if-coefficients-ne2.false in
    rw (n_is, g_is, cs_is) (tower_field_of _ _ c.args.tower.now.ring.length c.args.tower.now.ring.low c.args.tower.now.ring.base.ring.fits (rw (n_is) at c.if-n-gt16.false) c.args.tower.now.ring.base.no_zero_divisors two
    (coefficients_of (ring_of c.args.tower.now)) c.args.tower.now.ring.fits c.args.tower.now.no_zero_divisors)
