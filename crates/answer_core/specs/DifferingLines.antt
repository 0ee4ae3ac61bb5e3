-- The lines of the input at which two functions are told apart. Source: this project's own, docs/COMMANDS.md.
use Rattle.std.specs.Prelude.{ℕ, List, [], ◌∷◌, ◌++◌, codes, length, take}
use Rattle.poly_mixed.specs.Labels.{Labelling}
use Rattle.poly_mixed.specs.Text.{hex_text}
use Rattle.circuit_model.specs.Differing.{Difference}

-- a word's name, ` = ` and its element
abbrev pub word_line : List ℕ → ℕ → List ℕ
word_line name element = name ++ (codes " = " ++ (hex_text element ++ codes "\n"))

-- a line for each word, in their order
abbrev pub word_lines : List (List ℕ × ℕ) → List ℕ → List ℕ
word_lines [] elements = []
word_lines (word ∷ words) [] = []
word_lines (word ∷ words) (element ∷ elements) = word_line word.0 element ++ word_lines words elements

-- what a value is called, and the value
abbrev pub value_line : List ℕ → ℕ → List ℕ
value_line name element = name ++ (codes " " ++ (hex_text element ++ codes "\n"))

-- the input and the two values there, which have these names
abbrev pub differing_lines : Labelling → List ℕ → List ℕ → Difference → List ℕ
differing_lines labels first second found = word_lines labels.words found.input ++ (value_line first found.left ++ value_line second found.right)

-- the values at an input, of which as many elements count as the labels have words
abbrev pub difference_at : Labelling → List ℕ → (left right : ℕ) → Difference
difference_at labels input left right = record { input = take (length labels.words) input; left = left; right = right }
