use Rattle.std.proofs.Common.{arith}
use Rattle.unroll.proofs.CodeLemmas.{label_step}
use Rattle.unroll.proofs.plan.Plan.add_cycle_labels.Goals as goal

pub loop-n-preserved : goal.loop-n-preserved
loop-n-preserved c = label_step c.args.self.now.net c.args.maker.now c.loop-n.maker c.add_label.new.maker c.loop-n.n c.label.result.now (omega (arith, c.nets-n-end.ensures.count)) c.label.ensures c.loop-n.invariant c.in_ok-add_label.ensures
