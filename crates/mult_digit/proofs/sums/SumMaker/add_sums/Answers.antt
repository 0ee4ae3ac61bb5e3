use Rattle.std.proofs.Common.{◌∙◌, ap, arith}
use Rattle.mult_digit.specs.DigitPlan.{summands, with_sum}
use Rattle.mult_digit.proofs.ShapeLemmas.{sum_grows, sums_more}
use Rattle.mult_digit.proofs.sums.SumMaker.add_sums.Goals as goal

pub loop-l-preserved : goal.loop-l-preserved
loop-l-preserved g c = (
  sums_more (λ m. with_sum (summands c.args.first (g.R.Ring.degree c.args.ring.now) (g.R.Ring.product c.args.ring.now) c.args.x c.args.width c.args.z.now m)) c.args.self.now c.loop-l.self c.add_sum.new.self c.loop-l.l c.loop-l.invariant.0
      (c.in_ok-add_sum.ensures ∙ ap (λ list. with_sum list c.loop-l.self) (c.deref.ensures.value ∙ c.in_ok-list.ensures.are)),
  omega (arith, c.loop-l.invariant.1, sum_grows c.deref.result.now c.in_ok-list.list.items c.loop-l.self c.add_sum.new.self c.deref.ensures.value c.in_ok-list.ensures.few c.in_ok-add_sum.ensures),
)
