-- A top of instances over a field, with what feeds its instances. Source: Pruss, Kalla, Enescu, DAC 2014.
use Rattle.std.specs.Prelude.{◌≡◌, ℕ, List, length}
use Rattle.circuit_model.specs.Circuit.{Circuit}
use Rattle.compose_model.specs.Feeds.{FeedsOutput}
use Rattle.compose_model.specs.Given.{IsGivenOver}
use Rattle.compose_model.specs.Hierarchy.{top_words, Hierarchy}
use Rattle.compose_model.specs.NamedWord.{inputs_among}
use Rattle.compose_model.specs.Values.{feed_value, AreInstanceValues, IsTop}
use Rattle.compose_model.specs.Wiring.{AreAllFeeds, HaveBlocks, IsWithoutCycle}
use Rattle.compose_model.specs.declared.feeder.Feeder.{Feeder}

-- a hierarchy over the field of 2 to the k elements with this product, and a row of feeds for each instance
pub record WiredTop : Type 0 where
  pub k : ℕ
  pub product : ℕ → ℕ → ℕ
  pub hierarchy : Hierarchy
  pub rows : List (List Feeder)

module _ (top : WiredTop) where
  -- the hierarchy is given over a field, and row i is what feeds instance i
  pub record IsFed : Type 0 where
    pub over : IsGivenOver top.k top.product top.hierarchy
    pub feeds : AreAllFeeds top.hierarchy top.rows

  -- so it is, and each instance has a block that binds
  pub record IsBuilt : Type 0 where
    pub fed : IsFed
    pub blocks : HaveBlocks top.k top.product top.hierarchy

  -- so it is, and no instances feed each other in a cycle
  pub record IsBuiltWithoutCycle : Type 0 where
    pub built : IsBuilt
    pub acyclic : IsWithoutCycle top.rows

  -- this is the circuit of the whole top, and this is what feeds its output word
  pub record IsFlattened (flat : Circuit) (feed : Feeder) : Type 0 where
    pub circuit : IsTop top.k top.product top.hierarchy flat
    pub output : FeedsOutput top.hierarchy feed

  -- the value of the feed is e, for some values of the instances each of which is its block's output at the values of its feeds
  abbrev pub HasFeedValue : List ℕ → Feeder → ℕ → Type 0
  HasFeedValue xs feed e = (es : List ℕ) × AreInstanceValues top.k top.product top.hierarchy top.rows xs es × (feed_value top.k top.product top.hierarchy xs es feed ≡ e)

-- how many input words the top has
abbrev pub word_count : WiredTop → ℕ
word_count top = length (inputs_among (top_words top.hierarchy))
