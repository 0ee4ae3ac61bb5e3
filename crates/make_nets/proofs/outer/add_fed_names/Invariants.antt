-- Nets of the names before were made.
use Rattle.std.proofs.Common.{◌≡◌, ◌+◌, ◌++◌, List, ℕ, true, map, take}
use Rattle.net_words.specs.declared.feed.FeedText.{FeedText}
use Rattle.make_nets.specs.MakerNames.{AreMade}
use Rattle.make_nets.proofs.outer.add_fed_names.Given as goal

abbrev pub invariant-loop-feed : goal.invariant-loop-feed
invariant-loop-feed l =
    ((names : List (List ℕ)) → AreMade names l.fn.maker true → AreMade (names ++ map (λ (f : FeedText). f.net) (take l.feed-index l.feeds)) l.maker true)
    × (l.count ≡ l.fn.count + l.feed-index)
