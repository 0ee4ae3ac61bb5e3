use Rattle.std.proofs.Common.{arith}
use Rattle.net_words.proofs.FlatLemmas.{rebound_step, rebound_end}
use Rattle.net_words.proofs.rebinding.rebound_words.Goals as goal

pub loop-w-preserved : goal.loop-w-preserved
loop-w-preserved c = rebound_step c.args.binding.now.k c.args.binding.now.words c.args.nets.now c.loop-w.words.items c.push.new.self.items c.loop-w.w c.in_ok-rebound_word.field-0 (omega (arith, c.loop-w-test.true, c.words-w-end.ensures.count)) c.in_ok-rebound_word.ensures c.in_ok-push.ensures.items c.loop-w.invariant

pub returns : goal.returns
returns c = rebound_end c.args.binding.now.k c.args.binding.now.words c.args.nets.now c.loop-w.words.items c.loop-w.w (omega (arith, c.loop-w-test.false, c.words-w-end.ensures.count)) c.loop-w.invariant
