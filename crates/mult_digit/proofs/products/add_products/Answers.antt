use Rattle.std.proofs.Common.{arith, length}
use Rattle.mult_digit.specs.DigitPlan.{with_row}
use Rattle.mult_digit.proofs.ShapeLemmas.{gates_more}
use Rattle.mult_digit.proofs.products.add_products.Goals as goal

pub loop-e-preserved : goal.loop-e-preserved
loop-e-preserved c = (
  gates_more (with_row (length c.args.b.now) c.args.d.now c.args.b.now) c.args.plan.now c.loop-e.plan c.add_row.new.plan c.loop-e.e c.loop-e.invariant.0 c.in_ok-add_row.ensures.made,
  omega (arith, c.loop-e.invariant.1, c.in_ok-add_row.ensures.few, c.requires.b_few),
)
