-- Circuits of one cycle that a program is given part by part. Source: this project's own.
use Rattle.std.specs.Prelude.{ℕ, List, [], map}
use Rattle.lists.specs.Lists.{Has}
use Rattle.net_core.specs.NetList.{NetList}
use Rattle.gf_basis.specs.BasisParts.{elements_of, IsBasisOver}
use Rattle.circuit_model.specs.declared.circuit_word.CircuitWord.{CircuitWord}
use Rattle.circuit_model.specs.Word.{Word}
use Rattle.circuit_model.specs.Circuit.{Circuit}

-- the word that this value stands for
abbrev pub word_of : CircuitWord → Word
word_of word = record { role = word.role; nets = word.nets.items; basis = elements_of word.basis }

-- the circuit of these parts, which has no cycle but the first
abbrev pub circuit_of_parts : ℕ → (ℕ → ℕ → ℕ) → NetList → List CircuitWord → CircuitWord → Circuit
circuit_of_parts k product net words output = record { k = k; product = product; net = net; words = map word_of words; output = word_of output; feeds = []; cycles = 0 }

-- each word's basis is one of the field
abbrev pub AreOver : ℕ → (ℕ → ℕ → ℕ) → List CircuitWord → Type 0
AreOver k product words = (w : CircuitWord) → Has words w → IsBasisOver k product w.basis
