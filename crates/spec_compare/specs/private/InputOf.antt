-- The input whose bits that are 1 have these ranks, for the clauses of private functions. Source: this project's own.
use Rattle.std.specs.Prelude.{◌≡◌, ℕ, ◌+◌, ◌*◌, List, [], ◌∷◌, ◌++◌, length}
use Rattle.irreducible.specs.Span.{combination}
use Rattle.net_words.specs.declared.word.Role.{Role}
use Rattle.circuit_model.specs.Word.{Word}
use Rattle.circuit_model.specs.Circuit.{Circuit}
use Rattle.circuit_model.specs.OfBinding.{word_with}
use Rattle.spec_compare.specs.private.First.{number_at}

-- the elements of words, of which the first has the number w, where the bits of these ranks are 1
abbrev pub inputs_from : ℕ → List ℕ → ℕ → List Word → List ℕ
inputs_from k ones w [] = []
inputs_from k ones w (word ∷ words) = combination word.basis (number_at ones (k * w) k) ∷ inputs_from k ones (w + 1) words

-- the input of a circuit whose bits that are 1 have these ranks
abbrev pub input_of_ones : Circuit → List ℕ → List ℕ
input_of_ones circuit ones = inputs_from circuit.k ones 0 circuit.words

-- the element of a word with this role and basis is added, whatever the word's nets, unless it is an output word
abbrev pub AddsElement : ℕ → List ℕ → Role → List ℕ → List ℕ → List ℕ → Type 0
AddsElement k ones role basis before after = (nets : List ℕ) → after ≡ before ++ inputs_from k ones (length before) (word_with role nets basis)
