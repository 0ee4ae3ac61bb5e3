use Rattle.std.proofs.Common.{◌≡◌, sym, ◌∙◌, ap, arith}
use Rattle.gf_field.proofs.powers.power.Goals as goal
use Rattle.gf_field.proofs.powers.power.Goals.{then-left-eq1, else-left-eq1}
use Rattle.gf_field.specs.Power.{power}
use Rattle.gf_field.specs.laws.PowerLaws.{one_below, power_below, power_half, power_odd}

pub loop-left-init : goal.loop-left-init
loop-left-init g c = record {
  product_below = rw (c.one-product.ensures) (one_below _ _ (g.met.R.Ring.laws c.args.ring.now));
  base_below = c.requires;
  same = rw (c.one-product.ensures) ((g.met.R.Ring.laws c.args.ring.now).one _ (power_below _ _ (g.met.R.Ring.laws c.args.ring.now) _ _));
}

pub loop-left-preserved : goal.loop-left-preserved
loop-left-preserved g c = record {
  product_below = elim c.if-left-eq1.branch [ then-left-eq1 w ↦ rw (w.product-is) w.mul-product.ensures.element | else-left-eq1 w ↦ rw (w.product-is) c.loop-left.invariant.product_below ];
  base_below = c.square-base.ensures.element;
  same = elim c.if-left-eq1.branch [
    | then-left-eq1 w ↦ rw (w.product-is, w.mul-product.ensures.product, c.square-base.ensures.product) (power_odd _ _ (g.met.R.Ring.laws c.args.ring.now) _ _ _ w.if-left-eq1.true ∙ c.loop-left.invariant.same)
    | else-left-eq1 w ↦ rw (w.product-is, c.square-base.ensures.product) (power_half _ _ (g.met.R.Ring.laws c.args.ring.now) _ _ _ (omega arith) ∙ c.loop-left.invariant.same)
  ];
}

pub returns-clause-product : goal.returns-clause-product
unfolding power
returns-clause-product g c =
    let law = g.met.R.Ring.laws c.args.ring.now in
    let done : c.loop-left.left ≡ 0 = omega arith in
    sym (law.one c.loop-left.product c.loop-left.invariant.product_below) ∙ law.comm 1 c.loop-left.product
    ∙ ap (λ e. g.R.Ring.product c.args.ring.now c.loop-left.product (power (g.R.Ring.product c.args.ring.now) c.loop-left.base e)) (sym done)
    ∙ c.loop-left.invariant.same
