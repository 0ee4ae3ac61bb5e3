use Rattle.std.proofs.Common.{arith}
use Rattle.net_simplify.proofs.WordLemmas.{words_all, words_more}
use Rattle.net_simplify.proofs.circuit.word_nets.Goals as goal

pub loop-w-preserved : goal.loop-w-preserved
loop-w-preserved c = words_more c.args.binding.now.words c.loop-w.list.items _ c.loop-w.w (omega (arith, c.loop-w-test.true, c.words-w-end.ensures.count)) c.loop-w.invariant c.in_ok-add_word.ensures

pub returns : goal.returns
returns c = words_all c.args.binding.now.words c.loop-w.list.items c.loop-w.w (omega (arith, c.loop-w-test.false, c.words-w-end.ensures.count)) c.loop-w.invariant
