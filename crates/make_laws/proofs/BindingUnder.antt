-- Words and feeds that are bound to a net list whose nets are renumbered.
use Rattle.std.specs.Prelude.{◌≡◌, ℕ, map}
use Rattle.net_words.specs.Binding.{Binding}
use Rattle.net_words.specs.declared.bound.BoundWord.{BoundWord}
use Rattle.net_words.specs.declared.feed.Feed.{Feed}

-- a bound word and a bound feed, each net n of which gets the number f n
abbrev pub word_under : (ℕ → ℕ) → BoundWord → BoundWord
word_under f word = record { name = word.name; role = word.role; nets = map f word.nets }

abbrev pub feed_under : (ℕ → ℕ) → Feed → Feed
feed_under f feed = record { line = feed.line; net = f feed.net; cycle = feed.cycle; source = feed.source }

-- the same words and feeds are bound to both
pub record IsBindingUnder (f : ℕ → ℕ) (from to : Binding) : Type 0 where
  pub bits : to.k ≡ from.k
  pub words : to.words ≡ map (word_under f) from.words
  pub feeds : to.feeds ≡ map (feed_under f) from.feeds
