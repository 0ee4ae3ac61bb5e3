use Rattle.std.proofs.Common.{◌≡◌, ◌∙◌, None, ap, arith, length}
use Rattle.std.specs.Prelude.{slice_index}
use Rattle.make_nets.specs.Plan.{Plan, each, with_and}
use Rattle.mult_gen.proofs.PlanLemmas.{each_next}
use Rattle.mult_gen.proofs.products.product_row.Goals as goal

pub loop-y-preserved : goal.loop-y-preserved
loop-y-preserved c = (
  each_next (λ j. with_and None c.args.x (slice_index c.args.b.now j)) c.loop-y.y-index c.args.plan.now c.loop-y.plan c.and.new.self c.in_ok-and.ensures.made c.loop-y.invariant.0,
  omega (arith, c.loop-y.invariant.1, ap (λ (p : Plan). p.next) c.in_ok-and.ensures.made),
)

pub returns : goal.returns
returns c =
    let count : c.loop-y.y-index ≡ length c.args.b.now = omega arith in
    record {
      made = c.loop-y.invariant.0 ∙ ap (λ k. each k (λ j. with_and None c.args.x (slice_index c.args.b.now j)) c.args.plan.now) count;
      next = omega (arith, c.loop-y.invariant.1, count);
    }
