use Rattle.std.proofs.Common.{map}
use Rattle.worked_words.proofs.FeedLemmas.{feeds_in}
use Rattle.worked_words.proofs.fitting.+are_feeds.Goals as goal

pub returns-then-fits_beside : goal.returns-then-fits_beside
returns-then-fits_beside t c = λ more. feeds_in c.args.k (map (λ word. word.role) c.args.words.now) c.args.feeds.now c.feed-item.result c.in-len1-up.len_at_least c.feed-item.is (c.fits_beside.ensures.source c.if-fits_beside.true) (c.fits_beside.ensures.apart c.if-fits_beside.true) (c.are_feeds.ensures more)
