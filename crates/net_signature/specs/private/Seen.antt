-- The texts by which feeds and blocks are found. Source: this project's own.
use Rattle.std.specs.Prelude.{ℕ, ◌/◌, ◌%◌, ◌≤◌, Bool, List, ◌∷◌, ⊤}
use Rattle.std.specs.Str.{bytes_eq}
use Rattle.net_words.specs.declared.feed.FeedText.{FeedText}
use Rattle.net_signature.specs.Body.{BlockValue}
use Rattle.net_signature.specs.declared.entry.Entry.{Entry}
use Rattle.net_signature.specs.declared.entry.Entry.TheVariants.{Word, Feed, Block}

-- a text that tells net and cycle
abbrev pub feed_key : List ℕ → ℕ → List ℕ
feed_key net cycle = cycle / 64 ∷ cycle % 64 ∷ net

-- the text tells the net and the cycle of this feed
abbrev pub has_key : List ℕ → FeedText → Bool
has_key text feed = bytes_eq (feed_key feed.net feed.cycle) text

-- the block is of the model of this name
abbrev pub has_model : List ℕ → BlockValue → Bool
has_model name block = bytes_eq block.model name

-- the cycle of a feed is at most 4,096
abbrev pub IsFeedWithin : Entry → Type 0
IsFeedWithin (Word word) = ⊤
IsFeedWithin (Feed feed) = feed.cycle ≤ 4096
IsFeedWithin (Block model) = ⊤
