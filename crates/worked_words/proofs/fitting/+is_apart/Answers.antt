use Rattle.worked_words.proofs.FeedLemmas.{apart_in}
use Rattle.worked_words.proofs.fitting.+is_apart.Goals as goal

pub returns-then-differ : goal.returns-then-differ
returns-then-differ t c = λ apart. apart_in c.args.feed.now c.args.others.now c.other-item.result c.in-len1-up.len_at_least c.other-item.is (c.differ.ensures c.if-differ.true) (c.is_apart.ensures apart)
