use Rattle.std.proofs.Common.{◌≡◌, suc, ◌-◌, ◌∙◌, sym, ap, arith, drop}
use Rattle.gf_tower.specs.Tower.{polynomial_of}
use Rattle.gf_tower.proofs.CodeLaws.{packed_step}
use Rattle.gf_tower.proofs.towers.packed.Goals as goal

pub loop-i-preserved : goal.loop-i-preserved
loop-i-preserved c =
    let same : suc (c.loop-i.i - 1) ≡ c.loop-i.i = omega arith in
    packed_step c.args.n c.args.coefficients.now (c.loop-i.i - 1) c.loop-i.low c.requires.fits c.requires.elements (omega arith)
    (c.loop-i.invariant ∙ ap (λ i. polynomial_of c.args.n (drop i c.args.coefficients.now)) (sym same))
