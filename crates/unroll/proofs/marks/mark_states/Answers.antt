use Rattle.std.proofs.Common.{arith}
use Rattle.lists.specs.laws.ReadLaws.{get_below}
use Rattle.unroll.specs.private.Plan.{mark_at}
use Rattle.unroll.proofs.PlanLemmas.{held_step}
use Rattle.unroll.proofs.marks.mark_states.Goals as goal

pub loop-w-preserved : goal.loop-w-preserved
loop-w-preserved c = λ n less.
    let got = get_below c.args.binding.now.words c.loop-w.w (omega (arith, c.words-w-end.ensures.count)) in
    held_step c.args.binding.now.words c.loop-w.w n (mark_at c.args.marks.now n) (mark_at c.loop-w.marks n) (mark_at c.mark_held.new.marks n) got.0 got.1 (c.loop-w.invariant n (omega arith)) (c.in_ok-mark_held.ensures got.0 got.1 n less)
