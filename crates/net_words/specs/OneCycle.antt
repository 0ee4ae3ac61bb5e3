-- Words of a net in one cycle, where nothing is held in latches and nothing is fed. Source: this project's own.
use Rattle.std.specs.Prelude.{◌≡◌, ℕ, ◌<◌, ◌≤◌, List, [], length, All}
use Rattle.lists.specs.Lists.{Has, times}
use Rattle.net_core.specs.NetList.{NetList, nets}
use Rattle.net_words.specs.Binding.{Binding, IsBinding}
use Rattle.net_words.specs.BoundTo.{output_bits}
use Rattle.net_words.specs.Reach.{ReachesByGates}
use Rattle.net_words.specs.Variables.{bits}
use Rattle.net_words.specs.declared.bound.BoundWord.{BoundWord}

-- nothing is left to unroll: there is no latch and no feed, and each word has its nets
pub record IsFlat (net : NetList) (binding : Binding) : Type 0 where
  pub latches : net.latches ≡ []
  pub feeds : binding.feeds ≡ []
  pub named : All (λ word. length word.nets ≡ binding.k) binding.words

-- no chain of gates leads from a primary input in no word to a bit of the output word, and none is such a bit itself
abbrev pub IsClosed : NetList → List BoundWord → Type 0
IsClosed net words = (n : ℕ) → Has net.inputs n → (Has (bits words) n → ⊥) → ReachesByGates net n (output_bits words) → ⊥

-- Nothing is left to unroll; the bits of the input, state and fed words are different primary inputs; the output word's nets
-- exist; and it depends on these words alone.
pub record IsOneCycle (net : NetList) (binding : Binding) : Type 0 where
  pub parts : IsBinding binding
  pub count : binding.nets ≡ nets net
  pub flat : IsFlat net binding
  pub once : (n : ℕ) → times n (bits binding.words) ≤ 1
  pub inputs : (n : ℕ) → Has (bits binding.words) n → Has net.inputs n
  pub outputs : (n : ℕ) → Has (output_bits binding.words) n → n < nets net
  pub closed : IsClosed net binding.words
