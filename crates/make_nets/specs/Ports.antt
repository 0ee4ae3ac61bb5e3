-- The outer nets of a made net: those of a signature's words, in the order of the words and by place, and those that are fed.
-- Source: this project's own, docs/FORMATS.md.
use Rattle.std.specs.Prelude.{ℕ, ◌+◌, List, [], ◌∷◌, ◌++◌, length, if◌then◌else◌}
use Rattle.std.specs.List.{range_with_len}
use Rattle.net_words.specs.Roles.{same_role}
use Rattle.net_words.specs.declared.bound.BoundWord.{BoundWord}
use Rattle.net_words.specs.declared.word.Role.{Role}
use Rattle.net_words.specs.declared.word.Role.TheVariants.{Input, Output}
use Rattle.net_words.specs.declared.word.WordText.{WordText}

-- the names of the nets of words, word by word and by place
abbrev pub word_names : List WordText → List (List ℕ)
word_names [] = []
word_names (word ∷ words) = word.nets ++ word_names words

-- the names of the outer nets: those of the words, and then those that are fed
abbrev pub outer_names : List WordText → List (List ℕ) → List (List ℕ)
outer_names words fed = word_names words ++ fed

-- the numbers of the nets of the words with a role, where the words' nets are numbered from n
abbrev pub role_nets : Role → ℕ → List WordText → List ℕ
role_nets role n [] = []
role_nets role n (word ∷ words) = (if same_role word.role role then range_with_len n (length word.nets) else []) ++ role_nets role (n + length word.nets) words

-- the number of the first net of each word with a role
abbrev pub starts_of : Role → ℕ → List WordText → List ℕ
starts_of role n [] = []
starts_of role n (word ∷ words) = (if same_role word.role role then n ∷ [] else []) ++ starts_of role (n + length word.nets) words

-- the primary inputs: the nets of the input words, and those that are fed
abbrev pub inputs_of : List WordText → List (List ℕ) → List ℕ
inputs_of words fed = role_nets Input 0 words ++ range_with_len (length (word_names words)) (length fed)

-- the outputs: the nets of the output word
abbrev pub outputs_of : List WordText → List ℕ
outputs_of words = role_nets Output 0 words

-- the words with their nets, numbered from n
abbrev pub numbered : ℕ → List WordText → List BoundWord
numbered n [] = []
numbered n (word ∷ words) = record { name = word.name; role = word.role; nets = range_with_len n (length word.nets) } ∷ numbered (n + length word.nets) words
