use Rattle.std.proofs.Common.{◌≡◌, suc, ◌-◌, ◌∙◌, sym, ap, arith}
use Rattle.gf_field.specs.Quotient.{product}
use Rattle.gf_tower.specs.private.DigitSteps.{modulus_of}
use Rattle.gf_tower.specs.private.DigitSteps.{from_digit}
use Rattle.gf_tower.proofs.CodeLaws.{start_sum, element_sum, next_sum, end_sum, digit_element}
use Rattle.gf_tower.specs.laws.TowerLaws.{IsPacked-list, modulus_is, remainder_is}
use Rattle.gf_tower.proofs.towers.TowerRing.mul.Goals as goal

pub loop-i-init : goal.loop-i-init
loop-i-init g c = start_sum _ _ _ c.args.self.now.low (g.met.F.Ring.laws c.args.self.now.base) (IsPacked-list _ _ _ _ c.args.self.now.fits) c.args.a c.args.b

pub times_y-requires : goal.times_y-requires
times_y-requires g c = rw (c.loop-i.invariant) (element_sum _ _ _ c.args.self.now.low (g.met.F.Ring.laws c.args.self.now.base) (IsPacked-list _ _ _ _ c.args.self.now.fits) c.args.a c.args.b c.loop-i.i)

pub scaled-requires-clause-first : goal.scaled-requires-clause-first
scaled-requires-clause-first g c = rw (c.k-n.ensures) (digit_element _ _ _ c.args.self.now.low (g.met.F.Ring.laws c.args.self.now.base) (IsPacked-list _ _ _ _ c.args.self.now.fits) _)

pub loop-i-preserved : goal.loop-i-preserved
loop-i-preserved g c =
    let same : suc (c.loop-i.i - 1) ≡ c.loop-i.i = omega arith in
    next_sum _ _ _ c.args.self.now.low (g.met.F.Ring.laws c.args.self.now.base) (IsPacked-list _ _ _ _ c.args.self.now.fits) c.args.a c.args.b (c.loop-i.i - 1) c.loop-i.sum c.times_y.result c.scaled.result c.requires.second (omega arith)
    (c.loop-i.invariant ∙ ap (from_digit (g.F.Ring.degree c.args.self.now.base) (g.F.Ring.product c.args.self.now.base) c.args.self.now.length (modulus_of (g.F.Ring.degree c.args.self.now.base) c.args.self.now.length c.args.self.now.low) c.args.a c.args.b) (sym same))
    c.times_y.ensures.product
    (rw (c.k-n.ensures) at c.scaled.ensures.product)

pub returns-clause-product : goal.returns-clause-product
returns-clause-product g c =
    let done : c.loop-i.i ≡ 0 = omega arith in
    c.loop-i.invariant
    ∙ ap (from_digit (g.F.Ring.degree c.args.self.now.base) (g.F.Ring.product c.args.self.now.base) c.args.self.now.length (modulus_of (g.F.Ring.degree c.args.self.now.base) c.args.self.now.length c.args.self.now.low) c.args.a c.args.b) done
    ∙ end_sum _ _ _ c.args.self.now.low (g.met.F.Ring.laws c.args.self.now.base) (IsPacked-list _ _ _ _ c.args.self.now.fits) c.args.a c.args.b c.requires.first c.requires.second
    ∙ ap (λ x. product (g.F.Ring.degree c.args.self.now.base) c.args.self.now.length (g.F.Ring.product c.args.self.now.base) x c.args.a c.args.b) (modulus_is _ _ _ _ c.args.self.now.fits)

pub returns-clause-element : goal.returns-clause-element
returns-clause-element g c = rw (c.loop-i.invariant) (element_sum _ _ _ c.args.self.now.low (g.met.F.Ring.laws c.args.self.now.base) (IsPacked-list _ _ _ _ c.args.self.now.fits) c.args.a c.args.b c.loop-i.i)

pub returns-clause-remainder : goal.returns-clause-remainder
returns-clause-remainder g c = remainder_is _ _ _ _ c.args.self.now.fits _ (g.met.F.Ring.laws c.args.self.now.base) c.args.a c.args.b _ c.requires.first c.requires.second (returns-clause-product g c)
