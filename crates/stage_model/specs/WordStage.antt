-- The replacement of the bits of one word after another by the word. Source: this project's own.
use Rattle.std.specs.Prelude.{◌≡◌, ℕ, ◌+◌, ◌-◌, ◌*◌, Bool, ◌==◌, ◌&&◌, not, cond, List, ◌++◌, take, Some, length, slice_get, nat_lt, nat_le}
use Rattle.std.specs.Int.{bit_at}
use Rattle.std.specs.List.{filter}
use Rattle.poly_mixed.specs.Monomial.{Monomial}
use Rattle.poly_mixed.specs.Polynomial.{Terms, Point, term_value, value}
use Rattle.gf_basis.specs.Basis.{AreBits}
use Rattle.circuit_model.specs.Word.{Word}
use Rattle.circuit_model.specs.Circuit.{Circuit}
use Rattle.stage_model.specs.Mix.{IsMix}
use Rattle.stage_model.specs.Stage.{IsOfStage, AreSameStage}

-- the rank is one of word w, whose place i has the rank k * w + i
abbrev pub is_of_word : ℕ → ℕ → ℕ → Bool
is_of_word k w r = nat_le (k * w) r && nat_lt r (k * w + k)

-- the term's bits of word w, by rising place
abbrev pub word_bits : ℕ → ℕ → Monomial × ℕ → List ℕ
word_bits k w t = filter (is_of_word k w) t.0.bits

-- the term with the first j of its bits of word w, without the others of this word
abbrev pub first_bits : ℕ → ℕ → ℕ → Monomial × ℕ → Monomial × ℕ
first_bits k w j t = (record { exponents = t.0.exponents; bits = take j (word_bits k w t) ++ filter (λ r. not (is_of_word k w r)) t.0.bits }, t.1)

-- the point with the bits of the number d at the places of word w
abbrev pub with_word : ℕ → ℕ → ℕ → Point → Point
with_word k w d p = record { words = p.words; is_one = λ r. cond (is_of_word k w r) (bit_at d (r - k * w) == 1) (p.is_one r) }

-- d has the bits of the point's element of word w
pub record IsRead (circuit : Circuit) (w : ℕ) (p : Point) (d : ℕ) : Type 0 where
  pub word : Word
  pub element : ℕ
  pub at_word : slice_get circuit.words w ≡ Some word
  pub at_point : slice_get p.words w ≡ Some element
  pub bits : AreBits word.basis element d

-- term s, counted from 1, of the polynomial in which word w is replaced: that of the mix of the words before
pub record IsTermOf (circuit : Circuit) (w s : ℕ) (term : Monomial × ℕ) : Type 0 where
  pub terms : Terms
  pub before : IsOfStage circuit.k circuit.product (IsMix circuit w) terms
  pub place : ℕ
  pub number : place + 1 ≡ s
  pub at : slice_get terms place ≡ Some term

-- the product stage: the term's coefficient and words, its bits of other words, and the first j of its bits of word w,
-- multiplied, where these are read from the word
pub record IsTermProduct (circuit : Circuit) (w s j : ℕ) (p : Point) (e : ℕ) : Type 0 where
  pub term : Monomial × ℕ
  pub is_term : IsTermOf circuit w s term
  pub d : ℕ
  pub read : IsRead circuit w p d
  pub element : term_value circuit.product (with_word circuit.k w d p) (first_bits circuit.k w j term) ≡ e

-- the sum stage: the sum of the first s terms, where all bits of word w are read from the word
pub record IsTermSum (circuit : Circuit) (w s : ℕ) (p : Point) (e : ℕ) : Type 0 where
  pub terms : Terms
  pub before : IsOfStage circuit.k circuit.product (IsMix circuit w) terms
  pub d : ℕ
  pub read : IsRead circuit w p d
  pub element : value circuit.product (with_word circuit.k w d p) (take s terms) ≡ e

-- the sum stage of the last of these terms of the polynomial in which word w is replaced
abbrev pub SumOfAll : Circuit → ℕ → Terms → Point → ℕ → Type 0
SumOfAll circuit w ts = IsTermSum circuit w (length ts)

-- the stage is the mix of one word more
abbrev pub IsNextMix : Circuit → ℕ → (Point → ℕ → Type 0) → Type 0
IsNextMix circuit w stage = AreSameStage circuit.k stage (IsMix circuit (w + 1))
