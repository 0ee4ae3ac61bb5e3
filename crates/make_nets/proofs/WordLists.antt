-- The nets of the words of a signature, as lists of numbers.
use Rattle.std.specs.Prelude.{ℕ, ◌+◌, List, [], ◌∷◌, ◌++◌, length, if◌then◌else◌}
use Rattle.std.specs.List.{range_with_len}
use Rattle.net_words.specs.Roles.{is_output}
use Rattle.net_words.specs.declared.word.WordText.{WordText}

-- the nets of each word that is no output word, numbered from n
abbrev pub lists_of : ℕ → List WordText → List (List ℕ)
lists_of n [] = []
lists_of n (word ∷ words) = (if is_output word then [] else range_with_len n (length word.nets) ∷ []) ++ lists_of (n + length word.nets) words

-- lists, one after the other
abbrev pub all_of : List (List ℕ) → List ℕ
all_of [] = []
all_of (list ∷ lists) = list ++ all_of lists
