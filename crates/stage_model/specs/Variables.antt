-- Points as bits of nets. Source: this project's own.
use Rattle.std.specs.Prelude.{◌≡◌, ◌≢◌, ℕ, ◌+◌, ◌*◌, ◌<◌, ◌≤◌, ◌==◌, Bool, List, ◌++◌, Some, length, map, slice_get}
use Rattle.std.specs.List.{range_with_len, position_or_len}
use Rattle.net_core.specs.NetList.{nets}
use Rattle.net_words.specs.Variables.{others}
use Rattle.poly_mixed.specs.Polynomial.{Point}
use Rattle.circuit_model.specs.Word.{Word, word_nets}
use Rattle.circuit_model.specs.Circuit.{Circuit}

-- the nets of the input, state and fed words in the order of the signature and by place, and then all other nets by number
abbrev pub variables_of : Circuit → List ℕ
variables_of circuit = word_nets circuit.words ++ others (nets circuit.net) (word_nets circuit.words)

-- the place of a net among the variables
abbrev pub rank_in : List ℕ → ℕ → ℕ
rank_in variables n = position_or_len (λ m. m == n) variables

-- the bit that a point gives to a net
abbrev pub point_bit : List ℕ → Point → ℕ → Bool
point_bit variables p n = p.is_one (rank_in variables n)

-- the bits that a point gives to so many nets, by number
abbrev pub point_bits : ℕ → List ℕ → Point → List Bool
point_bits count variables p = map (point_bit variables p) (range_with_len 0 count)

-- the bits that a point gives to the nets of a circuit
abbrev pub net_bits_at : Circuit → Point → List Bool
net_bits_at circuit p = point_bits (nets circuit.net) (variables_of circuit) p

-- net n is that of place i of word w
pub record IsAtPlace (circuit : Circuit) (w i n : ℕ) : Type 0 where
  pub word : Word
  pub at_word : slice_get circuit.words w ≡ Some word
  pub at_place : slice_get word.nets i ≡ Some n

-- the rank is that of no place of word w or of a later word, where place i of word w has the rank k * w + i
abbrev pub IsInNoWordFrom : Circuit → ℕ → ℕ → Type 0
IsInNoWordFrom circuit w rank = (i j : ℕ) → w ≤ i → i < length circuit.words → j < circuit.k → circuit.k * i + j ≢ rank
