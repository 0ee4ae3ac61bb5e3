use Rattle.net_signature.proofs.FeedLemmas.{fed_feeds}
use Rattle.net_signature.proofs.laws.feeds_are_of_fed_words.Goals as goal

pub returns : goal.returns
returns c = fed_feeds
