use Rattle.std.proofs.Common.{◌≡◌, suc, ◌-◌, ◌∙◌, sym, ap, arith}
use Rattle.gf_tower.specs.private.DigitSteps.{scaled_from}
use Rattle.gf_tower.proofs.CodeLaws.{start_scaled, next_scaled, end_scaled, element_scaled, digit_element}
use Rattle.gf_tower.specs.laws.TowerLaws.{IsPacked-list}
use Rattle.gf_tower.proofs.towers.Tower.scaled.Goals as goal

pub loop-i-init : goal.loop-i-init
loop-i-init g c = start_scaled _ _ _ c.args.self.now.low (g.met.F.Ring.laws c.args.self.now.base) (IsPacked-list _ _ _ _ c.args.self.now.fits) c.args.a c.args.v

pub by-requires-clause-element : goal.by-requires-clause-element
by-requires-clause-element g c = rw (c.k-n.ensures) (digit_element _ _ _ c.args.self.now.low (g.met.F.Ring.laws c.args.self.now.base) (IsPacked-list _ _ _ _ c.args.self.now.fits) _)

pub loop-i-preserved : goal.loop-i-preserved
loop-i-preserved g c =
    let same : suc (c.loop-i.i - 1) ≡ c.loop-i.i = omega arith in
    rw (c.by.ensures.product c.args.a c.requires.first c.times-table.ensures.table, c.k-n.ensures)
    (next_scaled _ _ _ c.args.self.now.low (g.met.F.Ring.laws c.args.self.now.base) (IsPacked-list _ _ _ _ c.args.self.now.fits) c.args.a c.args.v (c.loop-i.i - 1) c.loop-i.result (omega arith)
    (c.loop-i.invariant ∙ ap (scaled_from (g.F.Ring.degree c.args.self.now.base) (g.F.Ring.product c.args.self.now.base) c.args.self.now.length c.args.a c.args.v) (sym same)))

pub returns-clause-product : goal.returns-clause-product
returns-clause-product g c =
    let done : c.loop-i.i ≡ 0 = omega arith in
    c.loop-i.invariant
    ∙ ap (scaled_from (g.F.Ring.degree c.args.self.now.base) (g.F.Ring.product c.args.self.now.base) c.args.self.now.length c.args.a c.args.v) done
    ∙ end_scaled _ _ _ c.args.self.now.low (g.met.F.Ring.laws c.args.self.now.base) (IsPacked-list _ _ _ _ c.args.self.now.fits) c.args.a c.args.v

pub returns-clause-element : goal.returns-clause-element
returns-clause-element g c =
    rw (returns-clause-product g c) (element_scaled _ _ _ c.args.self.now.low (g.met.F.Ring.laws c.args.self.now.base) (IsPacked-list _ _ _ _ c.args.self.now.fits) c.args.a c.args.v)
