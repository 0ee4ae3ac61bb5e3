use Rattle.std.proofs.Common.{◌≡◌, max, map, drop}
use Rattle.net_words.specs.declared.feed.FeedText.{FeedText}
use Rattle.make_nets.specs.Prefix.{most_leading}
use Rattle.make_nets.proofs.prefixes.most_in_feeds.Given as goal

abbrev pub invariant-loop-feed : goal.invariant-loop-feed
invariant-loop-feed l = max l.most (most_leading (map (λ (f : FeedText). f.net) (drop l.feed-index l.feeds))) ≡ most_leading (map (λ (f : FeedText). f.net) l.feeds)
