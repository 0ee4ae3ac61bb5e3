use Rattle.std.proofs.Common.{◌≡◌, ◌<◌, ℕ, ◌||◌, length, take}
use Rattle.net_words.specs.Feeds.{is_fed}
use Rattle.unroll.specs.private.Plan.{mark_at}
use Rattle.unroll.proofs.marks.mark_feeds.Given as goal

abbrev pub invariant-loop-feed : goal.invariant-loop-feed
invariant-loop-feed l = (k : ℕ) → k < length l.marks → mark_at l.marks k ≡ (mark_at l.initial.marks k || is_fed (take l.feed-index l.feeds) k)
