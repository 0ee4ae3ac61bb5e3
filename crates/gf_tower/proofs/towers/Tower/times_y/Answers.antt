use Rattle.gf_tower.proofs.CodeLaws.{top_element, is_times_y, element_times_y}
use Rattle.gf_tower.specs.laws.TowerLaws.{IsPacked-list}
use Rattle.gf_tower.proofs.towers.Tower.times_y.Goals as goal

pub scaled-requires-clause-first : goal.scaled-requires-clause-first
scaled-requires-clause-first g c = rw (c.k-n.ensures) (top_element _ _ _ c.args.self.now.low (g.met.F.Ring.laws c.args.self.now.base) (IsPacked-list _ _ _ _ c.args.self.now.fits) c.args.a c.requires)

pub returns-clause-product : goal.returns-clause-product
returns-clause-product g c =
    rw (c.scaled.ensures.product, c.k-n.ensures) (is_times_y _ _ _ c.args.self.now.low (g.met.F.Ring.laws c.args.self.now.base) (IsPacked-list _ _ _ _ c.args.self.now.fits) c.args.a c.requires)

pub returns-clause-element : goal.returns-clause-element
returns-clause-element g c = rw (returns-clause-product g c) (element_times_y _ _ _ c.args.self.now.low (g.met.F.Ring.laws c.args.self.now.base) (IsPacked-list _ _ _ _ c.args.self.now.fits) c.args.a)

pub scaled-requires-clause-second : goal.scaled-requires-clause-second
scaled-requires-clause-second g c = (IsPacked-list _ _ _ _ c.args.self.now.fits).below
