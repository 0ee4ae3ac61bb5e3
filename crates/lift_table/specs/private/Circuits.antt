-- The words and the outputs of a circuit as the code makes them. Source: this project's own.
use Rattle.std.specs.Prelude.{◌≡◌, ℕ, ◌++◌, List, [], length, map}
use Rattle.gf_basis.specs.BasisParts.{elements_of, IsBasisOver}
use Rattle.gf_basis.specs.declared.bases.Basis.{Basis}
use Rattle.net_core.specs.NetList.{NetList}
use Rattle.net_words.specs.declared.bound.BoundWord.{BoundWord}
use Rattle.circuit_model.specs.Flat.{AreOver, circuit_of_parts, word_of}
use Rattle.circuit_model.specs.OfBinding.{word_with}
use Rattle.circuit_model.specs.Out.{IsOut}
use Rattle.circuit_model.specs.WellFormed.{IsWellFormed}
use Rattle.circuit_model.specs.declared.circuit_word.CircuitWord.{CircuitWord}
use Rattle.lift_table.specs.private.Digits.{digits_of}

-- a word with its basis is added, unless it is the output word
abbrev pub AddsWord : BoundWord → Basis → List CircuitWord → List CircuitWord → Type 0
AddsWord word basis old new = map word_of new ≡ map word_of old ++ word_with word.role word.nets (elements_of basis)

-- an output of the circuit of these parts at the input of a row
abbrev pub IsOutAtRow : ℕ → (ℕ → ℕ → ℕ) → NetList → List CircuitWord → CircuitWord → ℕ → ℕ → Type 0
IsOutAtRow k mul net words to row e = IsOut (circuit_of_parts k mul net words to) (digits_of k (length words) row) e

-- the parts of a well-formed circuit without latches, whose bases are of this field
pub record AreParts (k : ℕ) (mul : ℕ → ℕ → ℕ) (net : NetList) (words : List CircuitWord) (to : CircuitWord) : Type 0 where
  pub flat : net.latches ≡ []
  pub over : AreOver k mul words
  pub over_output : IsBasisOver k mul to.basis
  pub well : IsWellFormed (circuit_of_parts k mul net words to)
