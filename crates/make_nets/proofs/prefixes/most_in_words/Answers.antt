use Rattle.make_nets.proofs.MostLemmas.{most_words_step}
use Rattle.std.proofs.Common.{ap, ◌∙◌}
use Rattle.make_nets.specs.Prefix.{most_leading}
use Rattle.make_nets.proofs.prefixes.most_in_words.Goals as goal

pub loop-word-preserved : goal.loop-word-preserved
loop-word-preserved c = most_words_step c.args.words.now c.loop-word.word-index c.word-item.result c.loop-word.most c.larger-most.result c.most_leading-count.result c.loop-word-test.true c.word-item.is (c.most_leading-count.ensures ∙ ap most_leading c.as_slice.ensures) c.larger-most.ensures c.loop-word.invariant
