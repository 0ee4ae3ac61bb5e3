use Rattle.std.proofs.Common.{rules}
use Rattle.net_aiger.proofs.NumberLemmas.{numbers_all, numbers_more, numbers_none, numbers_start}
use Rattle.net_aiger.proofs.numbers.numbers.Goals as goal

pub loop-word-init : goal.loop-word-init
loop-word-init c = numbers_start _ _ (search rules)

pub returns-in_default : goal.returns-in_default
returns-in_default c = numbers_none c.args.words.now c.loop-word.word-index _ c.loop-word.numbers.items _ c.loop-word.invariant c.loop-word-test.true c.in_default.ensures.value

pub loop-word-preserved : goal.loop-word-preserved
loop-word-preserved c = numbers_more c.args.words.now c.loop-word.word-index _ c.loop-word.numbers.items _ _ _ c.loop-word.invariant c.loop-word-test.true c.in-Some.ensures.value c.in_ok-push.ensures.items

pub returns : goal.returns
returns c = numbers_all c.args.words.now c.loop-word.word-index c.loop-word.numbers.items _ c.loop-word.invariant c.loop-word-test.false
