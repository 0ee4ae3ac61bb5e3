-- The stages of the replacement of words as a listing. Source: this project's own.
use Rattle.std.specs.Prelude.{◌≡◌, ℕ, ◌<◌, ◌≤◌, ◌⊎◌, length}
use Rattle.poly_mixed.specs.Monomial.{Monomial}
use Rattle.poly_mixed.specs.Polynomial.{Point}
use Rattle.poly_mixed.specs.declared.stage.Stage.{Stage}
use Rattle.poly_mixed.specs.declared.stage.Stage.TheVariants.{Cut, WordProduct, WordSum, SpecProduct, SpecSum, InstanceProduct, InstanceSum}
use Rattle.circuit_model.specs.Circuit.{Circuit}
use Rattle.stage_model.specs.WordStage.{word_bits, IsTermOf, IsTermProduct, IsTermSum}
use Rattle.stage_model.specs.Listing.{Listing, Nothing}

-- word w exists, term s of the polynomial in which it is replaced exists, and the term has a j-th bit of the word
pub record HasProduct (circuit : Circuit) (w s j : ℕ) : Type 0 where
  pub word : w < length circuit.words
  pub term : Monomial × ℕ
  pub is_term : IsTermOf circuit w s term
  pub some : 1 ≤ j
  pub bits : j ≤ length (word_bits circuit.k w term)

-- word w exists, and so does term s of the polynomial in which it is replaced
pub record HasSum (circuit : Circuit) (w s : ℕ) : Type 0 where
  pub word : w < length circuit.words
  pub term : Monomial × ℕ
  pub is_term : IsTermOf circuit w s term

-- the names of the product and sum stages
abbrev pub is_word_stage : Circuit → Stage → Type 0
is_word_stage circuit (Cut t) = ⊥
is_word_stage circuit (WordProduct w s j) = HasProduct circuit w s j
is_word_stage circuit (WordSum w s) = HasSum circuit w s
is_word_stage circuit (SpecProduct s j) = ⊥
is_word_stage circuit (SpecSum s) = ⊥
is_word_stage circuit (InstanceProduct i s j) = ⊥
is_word_stage circuit (InstanceSum i s) = ⊥

-- the product or sum stage of a name
abbrev pub word_stage_of : Circuit → Stage → Point → ℕ → Type 0
word_stage_of circuit (Cut t) = Nothing
word_stage_of circuit (WordProduct w s j) = IsTermProduct circuit w s j
word_stage_of circuit (WordSum w s) = IsTermSum circuit w s
word_stage_of circuit (SpecProduct s j) = Nothing
word_stage_of circuit (SpecSum s) = Nothing
word_stage_of circuit (InstanceProduct i s j) = Nothing
word_stage_of circuit (InstanceSum i s) = Nothing

-- term r of word v is before term s of word w, or is that term and `same` holds
abbrev pub IsEarlier : (v r w s : ℕ) → Type 0 → Type 0
IsEarlier v r w s same = (v < w) ⊎ ((v ≡ w) × ((r < s) ⊎ ((r ≡ s) × same)))

-- word by word and term by term, the products of a term before its sum
abbrev pub is_earlier_word_stage : Stage → Stage → Type 0
is_earlier_word_stage (WordProduct v r i) (WordProduct w s j) = IsEarlier v r w s (i < j)
is_earlier_word_stage (WordProduct v r i) (WordSum w s) = IsEarlier v r w s (Unit {0})
is_earlier_word_stage (WordSum v r) (WordProduct w s j) = IsEarlier v r w s ⊥
is_earlier_word_stage (WordSum v r) (WordSum w s) = IsEarlier v r w s ⊥
is_earlier_word_stage name other = ⊥

-- the stages of the replacement of a circuit's words
abbrev pub word_listing : Circuit → Listing Stage
word_listing circuit = record { is_listed = is_word_stage circuit; stage_of = word_stage_of circuit; comes_before = is_earlier_word_stage }
