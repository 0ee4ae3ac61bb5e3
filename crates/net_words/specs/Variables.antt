-- The order of variables after the words. Source: this project's own, docs/DEFINITIONS.md.
use Rattle.std.specs.Prelude.{◌≡◌, ℕ, ◌<◌, not, List, [], ◌∷◌, ◌++◌, length, filter, slice_index}
use Rattle.std.specs.List.{range_with_len}
use Rattle.net_words.specs.Roles.{stands_in}
use Rattle.net_words.specs.declared.bound.BoundWord.{BoundWord}
use Rattle.net_words.specs.declared.word.Role.{Role}
use Rattle.net_words.specs.declared.word.Role.TheVariants.{Input, State, Fed, Output}

-- the bits that a word with this role adds
abbrev pub bits_with : Role → List ℕ → List ℕ
bits_with Input list = list
bits_with State list = list
bits_with Fed list = list
bits_with Output list = []

-- the bits of input, state and fed words, in signature order and by place
abbrev pub bits : List BoundWord → List ℕ
bits [] = []
bits (word ∷ words) = bits_with word.role word.nets ++ bits words

-- the nets below `count` that are none of these, by number
abbrev pub others : ℕ → List ℕ → List ℕ
others count list = filter (λ n. not (stands_in list n)) (range_with_len 0 count)

-- The order of variables after the words: the bits of input, state and fed words in signature order and by place, then
-- all other nets by number.
abbrev pub variables : ℕ → List BoundWord → List ℕ
variables count words = bits words ++ others count (bits words)

-- the variable of this rank is the net
abbrev pub IsRanked : List ℕ → ℕ → ℕ → Type 0
IsRanked list rank net = (rank < length list) × (slice_index list rank ≡ net)

-- what a binding keeps of the order: the nets by rank, and the rank of each net
pub record IsOrdered (count : ℕ) (words : List BoundWord) (order ranks : List ℕ) : Type 0 where
  pub order_is : order ≡ variables count words
  pub long : length ranks ≡ count
  pub ranked : (n : ℕ) → n < count → IsRanked (variables count words) (slice_index ranks n) n
