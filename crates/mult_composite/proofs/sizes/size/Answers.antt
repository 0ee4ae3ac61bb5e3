use Rattle.std.proofs.Common.{◌≤◌, ◌*◌, ◌∙◌, ap, sym, subst, length, ℕ}
use Rattle.gf_field.specs.Ring2k.{degree_of}
use Rattle.irreducible.specs.Proved.{ring_of}
use Rattle.gf_tower.specs.TowerParts.{base_of}
use Rattle.mult_composite.proofs.RoomLemmas.{size_few}
use Rattle.mult_composite.proofs.sizes.size.Goals as goal

pub returns-clause-is : goal.returns-clause-is
returns-clause-is c = ap length c.coefficients-coefficients.ensures ∙ c.args.tower.now.fits.size

pub returns-clause-two : goal.returns-clause-two
returns-clause-two c = subst (λ (m : ℕ). 2 ≤ m) (sym (returns-clause-is c)) c.args.tower.now.fits.two

pub returns-clause-few : goal.returns-clause-few
returns-clause-few c =
    let tower = c.args.tower.now in
    subst (λ (m : ℕ). m ≤ 64) (sym (returns-clause-is c)) (size_few (degree_of (ring_of (base_of tower))) tower.length tower.base.ring.fits.some tower.fits.small)

pub returns-clause-small : goal.returns-clause-small
returns-clause-small c = subst (λ (m : ℕ). degree_of (ring_of (base_of c.args.tower.now)) * m ≤ 64) (sym (returns-clause-is c)) c.args.tower.now.fits.small
