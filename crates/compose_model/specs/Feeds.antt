-- What feeds the words of instances and the output word of a top. Source: Pruss, Kalla, Enescu, DAC 2014.
use Rattle.std.specs.Prelude.{◌≡◌, ℕ, List, [], ◌∷◌, Some, length, slice_get}
use Rattle.net_blif.specs.Statement.{Token}
use Rattle.net_blif.specs.declared.item.Item.{Item}
use Rattle.compose_model.specs.NamedWord.{inputs_among, outputs_among, NamedWord}
use Rattle.compose_model.specs.Hierarchy.{actuals_of, top_words, Hierarchy, IsInstance}
use Rattle.compose_model.specs.declared.feeder.Feeder.{Feeder}
use Rattle.compose_model.specs.declared.feeder.Feeder.TheVariants.{InputWord, OutputOf}

-- an input word of the top, of this number among these words, stands on these nets and has this basis
pub record IsInputWord (h : Hierarchy) (w : ℕ) (nets : List Token) (basis : List ℕ) : Type 0 where
  pub word : NamedWord
  pub at : slice_get (inputs_among (top_words h)) w ≡ Some word
  pub nets_are : word.nets ≡ nets
  pub basis_is : word.basis ≡ basis

-- the output word of an instance stands on these nets of the top and has this basis
pub record IsOutputOf (h : Hierarchy) (i : ℕ) (nets : List Token) (basis : List ℕ) : Type 0 where
  pub item : Item
  pub words : List NamedWord
  pub instance : IsInstance h i item words
  pub word : NamedWord
  pub output : outputs_among words ≡ word ∷ []
  pub actuals : actuals_of item word.nets ≡ Some nets
  pub basis_is : word.basis ≡ basis

-- a word of the top stands on these nets and has this basis
abbrev pub IsFeedOn : Hierarchy → Feeder → List Token → List ℕ → Type 0
IsFeedOn h (InputWord w) nets basis = IsInputWord h w nets basis
IsFeedOn h (OutputOf i) nets basis = IsOutputOf h i nets basis

-- a feed fits an instance's word: its nets are the actuals of the word's, place by place, and both have the same basis
pub record FitsWord (h : Hierarchy) (item : Item) (word : NamedWord) (feed : Feeder) : Type 0 where
  pub nets : List Token
  pub actuals : actuals_of item word.nets ≡ Some nets
  pub stands : IsFeedOn h feed nets word.basis

-- what feeds the input words of instance i, one feed for each of them
pub record AreFeedsOf (h : Hierarchy) (i : ℕ) (feeds : List Feeder) : Type 0 where
  pub item : Item
  pub words : List NamedWord
  pub instance : IsInstance h i item words
  pub long : length feeds ≡ length (inputs_among words)
  pub each : (j : ℕ) (word : NamedWord) (feed : Feeder) → slice_get (inputs_among words) j ≡ Some word → slice_get feeds j ≡ Some feed → FitsWord h item word feed

-- what feeds the output word of the top
pub record FeedsOutput (h : Hierarchy) (feed : Feeder) : Type 0 where
  pub word : NamedWord
  pub output : outputs_among (top_words h) ≡ word ∷ []
  pub stands : IsFeedOn h feed word.nets word.basis
