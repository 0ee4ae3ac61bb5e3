use Rattle.std.proofs.Common.{arith}
use Rattle.unroll.proofs.CodeLemmas.{fed_label_room, fed_label_step}
use Rattle.unroll.proofs.plan.Plan.add_fed_labels.Goals as goal

pub add_word_labels-requires-clause-room : goal.add_word_labels-requires-clause-room
add_word_labels-requires-clause-room c = λ word got. fed_label_room c.args.self.now.binding.k c.args.self.now.binding.words c.loop-w.w c.args.maker.now c.loop-w.maker word got c.requires c.loop-w.invariant

pub loop-w-preserved : goal.loop-w-preserved
loop-w-preserved c = fed_label_step c.args.self.now.binding.k c.args.self.now.binding.words c.loop-w.w c.args.maker.now c.loop-w.maker c.add_word_labels.new.maker (omega (arith, c.words-w-end.ensures.count)) c.loop-w.invariant c.in_ok-add_word_labels.ensures
