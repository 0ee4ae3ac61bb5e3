-- The labels with which a job's polynomials are printed. Source: this project's own, docs/FORMATS.md.
use Rattle.std.specs.Prelude.{ℕ, ◌<◌, List, [], ◌∷◌, ◌++◌, length, map}
use Rattle.net_core.specs.NetList.{nets}
use Rattle.net_words.specs.Binding.{BoundNet}
use Rattle.net_words.specs.Variables.{bits, others}
use Rattle.net_words.specs.declared.word.Role.{Role}
use Rattle.net_words.specs.declared.word.Role.TheVariants.{Input, State, Fed, Output}
use Rattle.net_words.specs.declared.word.WordText.{WordText}
use Rattle.poly_mixed.specs.Labels.{Labelling, Differs}

-- what a word with this role adds to the input, state and fed words
abbrev pub word_label : Role → List ℕ → ℕ → List (List ℕ × ℕ)
word_label Input name k = (name, k) ∷ []
word_label State name k = (name, k) ∷ []
word_label Fed name k = (name, k) ∷ []
word_label Output name k = []

-- the input, state and fed words in the order of the signature, each with k bits
abbrev pub word_labels : ℕ → List WordText → List (List ℕ × ℕ)
word_labels k [] = []
word_labels k (word ∷ words) = word_label word.role word.name k ++ word_labels k words

-- this name for the output word, and the other for another
abbrev pub name_with : Role → List ℕ → List ℕ → List ℕ
name_with Input name other = other
name_with State name other = other
name_with Fed name other = other
name_with Output name other = name

-- the name of the first output word
abbrev pub output_name : List WordText → List ℕ
output_name [] = []
output_name (word ∷ words) = name_with word.role word.name (output_name words)

-- the labels of polynomials in words and their bits, which need no names of other nets
abbrev pub labels_of : ℕ → List WordText → Labelling
labels_of k words = record { output = output_name words; words = word_labels k words; nets = [] }

-- the labels of polynomials in all variables of a circuit: the words, their bits, and then its other nets by number
abbrev pub circuit_labels : ℕ → List WordText → BoundNet → Labelling
circuit_labels k words circuit = record { output = output_name words; words = word_labels k words; nets = others (nets circuit.net) (bits circuit.binding.words) }

-- the labels of the same words, and of these nets
abbrev pub with_nets : Labelling → List ℕ → Labelling
with_nets labels list = record { output = labels.output; words = labels.words; nets = list }

-- a word that adds a label has a new name, and there are fewer than 8 before it
abbrev pub IsNewLabel : Role → List ℕ → List (List ℕ × ℕ) → Type 0
IsNewLabel Input name before = Differs name (map (λ w. w.0) before) × (length before < 8)
IsNewLabel State name before = Differs name (map (λ w. w.0) before) × (length before < 8)
IsNewLabel Fed name before = Differs name (map (λ w. w.0) before) × (length before < 8)
IsNewLabel Output name before = Unit {0}
