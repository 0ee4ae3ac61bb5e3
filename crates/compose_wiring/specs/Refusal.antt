-- Which words of instances nothing fits, and the first of them. Source: this project's own.
use Rattle.std.specs.Prelude.{◌≡◌, ◌≢◌, ◌⊎◌, ℕ, ◌+◌, List, None, Some, slice_get}
use Rattle.lists.specs.Lists.{Has}
use Rattle.net_core.specs.Order.{IsBefore}
use Rattle.net_words.specs.declared.word.Role.TheVariants.{Output}
use Rattle.net_blif.specs.Statement.{Token}
use Rattle.net_blif.specs.Top.{actual_in}
use Rattle.net_blif.specs.declared.item.Item.{Item}
use Rattle.compose_model.specs.Feeds.{FitsWord, FeedsOutput}
use Rattle.compose_model.specs.Hierarchy.{Hierarchy, IsInstance}
use Rattle.compose_model.specs.NamedWord.{inputs_among, NamedWord}
use Rattle.compose_model.specs.declared.feeder.Feeder.{Feeder}
use Rattle.compose_wiring.specs.declared.fault.WiringFault.{WiringFault}
use Rattle.compose_wiring.specs.declared.fault.WiringFault.TheVariants.{NotWords, OutputNotWords, OutOfMemory}

-- a net of a block is an input of it: it stands in one of these words that is no output word
abbrev pub IsInputOf : List NamedWord → Token → Type 0
IsInputOf words net = (word : NamedWord) × Has (inputs_among words) word × Has word.nets net

-- a bit of a word that the instance's output cannot be: it is not connected, or it is an input of the block
pub record HasNoOutputBit (item : Item) (words : List NamedWord) (word : NamedWord) : Type 0 where
  pub net : Token
  pub bit : Has word.nets net
  pub because : (actual_in item net ≡ None) ⊎ IsInputOf words net

-- a word of an instance is refused: the output word where one of its bits is none, and any other where no feed fits it
abbrev pub IsRefusedWord : Hierarchy → Item → List NamedWord → NamedWord → Type 0
IsRefusedWord h item words word = ((word.role ≡ Output) × HasNoOutputBit item words word) ⊎ ((word.role ≢ Output) × ((feed : Feeder) → FitsWord h item word feed → ⊥))

-- word w of instance i is refused; both count from 0, the words in the order of the block's lines
pub record IsRefusedAt (h : Hierarchy) (i w : ℕ) : Type 0 where
  pub item : Item
  pub words : List NamedWord
  pub instance : IsInstance h i item words
  pub word : NamedWord
  pub at : slice_get words w ≡ Some word
  pub refused : IsRefusedWord h item words word

-- it is the first, by instance and then by word
pub record IsFirstRefused (h : Hierarchy) (i w : ℕ) : Type 0 where
  pub here : IsRefusedAt h i w
  pub before : (j v : ℕ) → IsBefore j v i w → IsRefusedAt h j v → ⊥

-- no word of an instance is refused
abbrev pub AreAllFed : Hierarchy → Type 0
AreAllFed h = (i w : ℕ) → IsRefusedAt h i w → ⊥

-- why a top is not wired, where instances count from 1; out of memory is free
abbrev pub IsWiringFault : Hierarchy → WiringFault → Type 0
IsWiringFault h (NotWords n w) = (i : ℕ) × (n ≡ i + 1) × IsFirstRefused h i w
IsWiringFault h OutputNotWords = AreAllFed h × ((feed : Feeder) → FeedsOutput h feed → ⊥)
IsWiringFault h OutOfMemory = Unit {0}
