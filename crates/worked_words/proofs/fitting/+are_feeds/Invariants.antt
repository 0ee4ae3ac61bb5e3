use Rattle.std.proofs.Common.{length}
use Rattle.worked_words.proofs.fitting.+are_feeds.Given as goal

abbrev pub decreases-are_feeds : goal.decreases-are_feeds
decreases-are_feeds l = length l.feeds.now
