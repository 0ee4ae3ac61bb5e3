-- A wired top. Source: Pruss, Kalla, Enescu, DAC 2014.
use Rattle.std.specs.Prelude.{◌≡◌, ℕ, ◌<◌, List, Some, length, slice_get}
use Rattle.net_blif.specs.Statement.{Token}
use Rattle.net_blif.specs.Top.{instances_of}
use Rattle.net_blif.specs.declared.item.Item.{Item}
use Rattle.compose_model.specs.Feeds.{FitsWord, FeedsOutput, IsOutputOf}
use Rattle.compose_model.specs.Hierarchy.{top_words, Hierarchy, IsInstance}
use Rattle.compose_model.specs.NamedWord.{inputs_among, NamedWord}
pub use Rattle.compose_model.specs.Wiring.{rows_in}
use Rattle.compose_model.specs.Wiring.{AreAllFeeds}
use Rattle.compose_model.specs.declared.feeder.Feeder.{Feeder}
use Rattle.compose_model.specs.declared.feeder.Feeder.TheVariants.{InputWord, OutputOf}
use Rattle.compose_wiring.specs.Refusal.{AreAllFed}

-- the feed is one of the input words of the top or of its instances
abbrev pub IsFeedIn : Hierarchy → Feeder → Type 0
IsFeedIn h (InputWord w) = w < length (inputs_among (top_words h))
IsFeedIn h (OutputOf i) = i < length (instances_of h.design)

-- the order of feeds: the input words of the top in their order, and then the outputs of the instances by number
abbrev pub IsEarlierFeed : Feeder → Feeder → Type 0
IsEarlierFeed (InputWord w) (InputWord v) = w < v
IsEarlierFeed (InputWord w) (OutputOf i) = Unit {0}
IsEarlierFeed (OutputOf i) (InputWord w) = ⊥
IsEarlierFeed (OutputOf i) (OutputOf j) = i < j

-- no earlier feed fits the word of an instance
abbrev pub IsFirstFit : Hierarchy → Item → NamedWord → Feeder → Type 0
IsFirstFit h item word feed = (other : Feeder) → IsEarlierFeed other feed → FitsWord h item word other → ⊥

-- row i is what feeds instance i, the output word has a feed, no word is refused, and each instance has an output; where more than one feed
-- fits a word, the word has the first of them
pub record AreWired (h : Hierarchy) (rows : List (List Feeder)) (output : Feeder) : Type 0 where
  pub feeds : AreAllFeeds h rows
  pub feeds_output : FeedsOutput h output
  pub accepted : AreAllFed h
  pub outputs : (i : ℕ) (item : Item) → slice_get (instances_of h.design) i ≡ Some item → (nets : List Token) × (basis : List ℕ) × IsOutputOf h i nets basis
  pub among : (i j : ℕ) (feeds : List Feeder) (feed : Feeder) → slice_get rows i ≡ Some feeds → slice_get feeds j ≡ Some feed → IsFeedIn h feed
  pub among_output : IsFeedIn h output
  pub first : (i : ℕ) (feeds : List Feeder) (item : Item) (words : List NamedWord) → slice_get rows i ≡ Some feeds → IsInstance h i item words → (j : ℕ) (word : NamedWord) (feed : Feeder) → slice_get (inputs_among words) j ≡ Some word → slice_get feeds j ≡ Some feed → IsFirstFit h item word feed
  pub first_output : (other : Feeder) → IsEarlierFeed other output → FeedsOutput h other → ⊥
