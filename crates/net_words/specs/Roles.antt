-- What words are to the netlist. Source: this project's own format, docs/FORMATS.md.
use Rattle.std.specs.Prelude.{ℕ, ◌==◌, ◌&&◌, not, Bool, true, false, List, length, filter}
use Rattle.std.specs.List.{list_any}
use Rattle.net_words.specs.declared.bound.BoundWord.{BoundWord}
use Rattle.net_words.specs.declared.word.Role.{Role}
use Rattle.net_words.specs.declared.word.Role.TheVariants.{Input, State, Fed, Output}
use Rattle.net_words.specs.declared.word.WordText.{WordText}

abbrev pub same_role : Role → Role → Bool
same_role Input Input = true
same_role State State = true
same_role Fed Fed = true
same_role Output Output = true
same_role a b = false

-- the word is what is computed; the others, input, state and fed words, are what it is computed from
abbrev pub is_output : WordText → Bool
is_output word = same_role word.role Output

-- how many input, state and fed words there are
abbrev pub input_count : List WordText → ℕ
input_count words = length (filter (λ word. not (is_output word)) words)

-- the net stands in the list
abbrev pub stands_in : List ℕ → ℕ → Bool
stands_in list n = list_any (λ m. m == n) list

-- the net stands in a word with this role
abbrev pub in_word : Role → List BoundWord → ℕ → Bool
in_word role words n = list_any (λ word. same_role word.role role && stands_in word.nets n) words
