-- The circuit of a net list in one cycle and of the words that are bound to it: all its words are on primary inputs, and so
-- input words of the circuit. Source: this project's own.
use Rattle.std.specs.Prelude.{◌≡◌, ℕ, not, List, [], ◌∷◌, ◌++◌, length, filter}
use Rattle.lists.specs.Lists.{Has}
use Rattle.net_words.specs.Binding.{BoundNet}
use Rattle.net_words.specs.BoundTo.{output_bits}
use Rattle.net_words.specs.Roles.{same_role}
use Rattle.net_words.specs.declared.bound.BoundWord.{BoundWord}
use Rattle.net_words.specs.declared.word.Role.{Role}
use Rattle.net_words.specs.declared.word.Role.TheVariants.{Input, State, Fed, Output}
use Rattle.gf_basis.specs.Basis.{IsBasis}
use Rattle.circuit_model.specs.Word.{Word}
use Rattle.circuit_model.specs.Circuit.{Circuit}

-- the word that a bound word adds to the input words of the circuit
abbrev pub word_with : Role → List ℕ → List ℕ → List Word
word_with Input nets basis = record { role = Input; nets = nets; basis = basis } ∷ []
word_with State nets basis = record { role = Input; nets = nets; basis = basis } ∷ []
word_with Fed nets basis = record { role = Input; nets = nets; basis = basis } ∷ []
word_with Output nets basis = []

-- the input, state and fed words, with their bases out of a list of one basis for each word
abbrev pub words_of : List BoundWord → List (List ℕ) → List Word
words_of [] bases = []
words_of (word ∷ words) [] = []
words_of (word ∷ words) (basis ∷ bases) = word_with word.role word.nets basis ++ words_of words bases

-- how many of the words are input, state and fed words
abbrev pub inner_count : List BoundWord → ℕ
inner_count words = length (filter (λ word. not (same_role word.role Output)) words)

-- this basis for the output word, and the other for another
abbrev pub output_basis_with : Role → List ℕ → List ℕ → List ℕ
output_basis_with Input basis other = other
output_basis_with State basis other = other
output_basis_with Fed basis other = other
output_basis_with Output basis other = basis

-- the basis of the first output word, out of a list of one basis for each word
abbrev pub output_basis : List BoundWord → List (List ℕ) → List ℕ
output_basis [] bases = []
output_basis (word ∷ words) [] = []
output_basis (word ∷ words) (basis ∷ bases) = output_basis_with word.role basis (output_basis words bases)

-- the output word with this basis
abbrev pub output_word : List BoundWord → List ℕ → Word
output_word words basis = record { role = Output; nets = output_bits words; basis = basis }

-- the circuit over the field of 2 to the k elements with this product, with one basis for each word of the binding
abbrev pub circuit_with : ℕ → (ℕ → ℕ → ℕ) → BoundNet → List (List ℕ) → Circuit
circuit_with k product netlist bases = record { k = k; product = product; net = netlist.net; words = words_of netlist.binding.words bases; output = output_word netlist.binding.words (output_basis netlist.binding.words bases); feeds = []; cycles = 0 }

-- one basis of the field of 2 to the k elements for each word
pub record HaveBases (k : ℕ) (words : List BoundWord) (bases : List (List ℕ)) : Type 0 where
  pub long : length bases ≡ length words
  pub each : (basis : List ℕ) → Has bases basis → IsBasis k basis
