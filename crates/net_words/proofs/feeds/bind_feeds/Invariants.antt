use Rattle.std.proofs.Common.{List, [], drop, Result}
use Rattle.net_words.specs.Feeds.{FeedsOf}
use Rattle.net_words.specs.declared.binding.BindFault.{BindFault}
use Rattle.net_words.specs.declared.feed.Feed.{Feed}
use Rattle.net_words.proofs.feeds.bind_feeds.Given as goal

-- what may come of the rest may come of the whole
abbrev pub invariant-loop-feed : goal.invariant-loop-feed
invariant-loop-feed l = (outcome : Result (List Feed) BindFault) → FeedsOf l.net l.words l.bound.items (drop l.feed-index l.feeds) outcome → FeedsOf l.net l.words [] l.feeds outcome
