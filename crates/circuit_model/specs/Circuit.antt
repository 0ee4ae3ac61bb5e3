-- Circuits: net lists with words over a field, and what is fed to them. Source: this project's own, docs/DEFINITIONS.md.
use Rattle.std.specs.Prelude.{◌≡◌, ℕ, ◌<◌, ◌^◌, List, length, take}
use Rattle.lists.specs.Lists.{Has}
use Rattle.net_core.specs.NetList.{NetList, nets}
use Rattle.circuit_model.specs.declared.circuit_feed.CircuitFeed.{CircuitFeed}
use Rattle.circuit_model.specs.Word.{Word, word_nets}
use Rattle.circuit_model.specs.Feeds.{fed_nets}

-- a field of 2 to the k elements with its product, a net list, the input, state and fed words in the order of the
-- signature, the output word, the feeds, and how many cycles come after the first
pub record Circuit : Type 0 where
  pub k : ℕ
  pub product : ℕ → ℕ → ℕ
  pub net : NetList
  pub words : List Word
  pub output : Word
  pub feeds : List CircuitFeed
  pub cycles : ℕ

-- the net exists
abbrev pub IsNet : Circuit → ℕ → Type 0
IsNet circuit n = n < nets circuit.net

-- the net is no bit of an input, state or fed word
abbrev pub IsInNoWord : Circuit → ℕ → Type 0
IsInNoWord circuit n = Has (word_nets circuit.words) n → ⊥

-- the net is that of a feed
abbrev pub IsFed : Circuit → ℕ → Type 0
IsFed circuit n = Has (fed_nets circuit.feeds) n

-- the net is a primary input in no word, and is not fed
pub record IsFree (circuit : Circuit) (n : ℕ) : Type 0 where
  pub input : Has circuit.net.inputs n
  pub unnamed : IsInNoWord circuit n
  pub unfed : IsFed circuit n → ⊥

-- one element of the field for each input, state and fed word
pub record IsInput (circuit : Circuit) (xs : List ℕ) : Type 0 where
  pub long : length xs ≡ length circuit.words
  pub elements : (x : ℕ) → Has xs x → x < 2 ^ circuit.k

-- the input that stands first in a list of elements: one for each input, state and fed word
abbrev pub input_in : Circuit → List ℕ → List ℕ
input_in circuit elements = take (length circuit.words) elements
