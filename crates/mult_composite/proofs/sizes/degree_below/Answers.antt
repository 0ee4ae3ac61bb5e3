use Rattle.std.proofs.Common.{◌≡◌, ◌≤◌, ◌∙◌, ap, arith}
use Rattle.gf_field.specs.Ring2k.{degree_of}
use Rattle.irreducible.specs.Proved.{ring_of}
use Rattle.gf_tower.specs.TowerParts.{base_of}
use Rattle.mult_composite.proofs.RoomLemmas.{low_few}
use Rattle.mult_composite.proofs.sizes.degree_below.Goals as goal

pub returns-clause-is : goal.returns-clause-is
returns-clause-is c = c.k-n.ensures ∙ ap (λ base. degree_of (ring_of base)) c.base.ensures

pub returns-clause-some : goal.returns-clause-some
returns-clause-some c =
    let tower = c.args.tower.now in
    let is : c.k-n.result ≡ degree_of (ring_of (base_of tower)) = returns-clause-is c in
    let some : 1 ≤ degree_of (ring_of (base_of tower)) = tower.base.ring.fits.some in
    omega (arith, is, some)

pub returns-clause-low : goal.returns-clause-low
returns-clause-low c =
    let tower = c.args.tower.now in
    let is : c.k-n.result ≡ degree_of (ring_of (base_of tower)) = returns-clause-is c in
    let low : degree_of (ring_of (base_of tower)) ≤ 32 = low_few (degree_of (ring_of (base_of tower))) tower.length tower.fits.two tower.fits.small in
    omega (arith, is, low)
