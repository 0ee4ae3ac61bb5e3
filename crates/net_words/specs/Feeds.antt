-- Feeds: what is fed to a net, cycle by cycle. Source: this project's own format, docs/FORMATS.md.
use Rattle.std.specs.Prelude.{◌≡◌, ℕ, ◌<◌, ◌==◌, ◌&&◌, not, Bool, List, [], ◌∷◌, ◌++◌, map, slice_get, Option, None, Some, Result, Ok, Err, if◌then◌else◌}
use Rattle.std.specs.List.{list_any}
use Rattle.lists.specs.Lists.{Has}
use Rattle.outcome.specs.Outcome.{Outcome, ◌>>=◌, Exactly, Returns}
use Rattle.net_core.specs.NetList.{NetList, number_of}
use Rattle.net_words.specs.Roles.{in_word, stands_in}
use Rattle.net_words.specs.declared.binding.BindFault.{BindFault}
use Rattle.net_words.specs.declared.binding.BindFault.TheVariants.{FeedNotFree}
use Rattle.net_words.specs.declared.bound.BoundWord.{BoundWord}
use Rattle.net_words.specs.declared.feed.Feed.{Feed}
use Rattle.net_words.specs.declared.feed.FeedText.{FeedText}
use Rattle.net_words.specs.declared.feed.Source.{Source}
use Rattle.net_words.specs.declared.feed.Source.TheVariants.{Zero, One, Bit}
use Rattle.net_words.specs.declared.word.Role.{Role}
use Rattle.net_words.specs.declared.word.Role.TheVariants.{Input, Fed}

-- the source is a constant, or a place below k of a fed word, where the words have these roles
abbrev pub IsSource : ℕ → List Role → Source → Type 0
IsSource k roles Zero = Unit {0}
IsSource k roles One = Unit {0}
IsSource k roles (Bit word place) = (place < k) × (slice_get roles word ≡ Some Fed)

-- feeds that can be bound: each has a source, and no two have the same net and cycle
pub record AreFeeds (k : ℕ) (roles : List Role) (feeds : List FeedText) : Type 0 where
  pub sources : (feed : FeedText) → Has feeds feed → IsSource k roles feed.source
  pub apart : (i j : ℕ) (f g : FeedText) → slice_get feeds i ≡ Some f → slice_get feeds j ≡ Some g → f.net ≡ g.net → f.cycle ≡ g.cycle → i ≡ j

-- the nets that are fed
abbrev pub fed_nets : List Feed → List ℕ
fed_nets feeds = map (λ feed. feed.net) feeds

-- the net is fed in some cycle
abbrev pub is_fed : List Feed → ℕ → Bool
is_fed feeds n = list_any (λ feed. feed.net == n) feeds

-- the net is a primary input in no input word, so that it may be fed
abbrev pub is_free : NetList → List BoundWord → ℕ → Bool
is_free net words n = stands_in net.inputs n && not (in_word Input words n)

-- the net of a feed of this line, where its name has one
abbrev pub free_net : NetList → List BoundWord → ℕ → Option ℕ → Result ℕ BindFault
free_net net words line None = Err (FeedNotFree line)
free_net net words line (Some n) = if is_free net words n then Ok n else Err (FeedNotFree line)

-- the feed with its net
abbrev pub bound_feed : FeedText → ℕ → Feed
bound_feed feed n = record { line = feed.line; net = n; cycle = feed.cycle; source = feed.source }

-- the feeds with their nets, after those before: feed by feed, the first fault decides
abbrev pub FeedsOf : NetList → List BoundWord → List Feed → List FeedText → Outcome BindFault (List Feed)
FeedsOf net words before [] = Exactly before
FeedsOf net words before (feed ∷ feeds) = do
  n ← Returns (free_net net words feed.line (number_of net feed.net))
  FeedsOf net words (before ++ bound_feed feed n ∷ []) feeds
