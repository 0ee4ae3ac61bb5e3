-- What the plain program makes of words. Source: this project's own.
use Rattle.std.specs.Prelude.{◌≡◌, ℕ, ◌<◌, ◌≤◌, ◌+◌, List, Some, take, length, slice_get, slice_index}
use Rattle.std.specs.Int.{bit_at}
use Rattle.gf_basis.specs.Basis.{AreBits}
use Rattle.poly_mixed.specs.Monomial.{Monomial}
use Rattle.poly_mixed.specs.Polynomial.{Terms, Point, IsPoint, IsReduced, term_value, value}
use Rattle.net_core.specs.NetList.{NetList}
use Rattle.circuit_model.specs.declared.circuit_word.CircuitWord.{CircuitWord}
use Rattle.circuit_model.specs.Flat.{circuit_of_parts}
use Rattle.circuit_model.specs.WellFormed.{IsWellFormed}
use Rattle.stage_model.specs.Mix.{IsMix}
use Rattle.stage_model.specs.Stage.{IsOfStage}
use Rattle.stage_model.specs.WordStage.{word_bits, first_bits, with_word, IsTermProduct, IsTermSum}

module _ (k : ℕ) (mul : ℕ → ℕ → ℕ) (elements : List ℕ) (word : ℕ) where
  -- at each point where the word's element has these bits, the polynomial's value is h of them
  pub record IsReading (h : ℕ → Point → ℕ) (ts : Terms) : Type 0 where
    pub reduced : IsReduced k ts
    pub values : (p : Point) (d : ℕ) → IsPoint k p → AreBits elements (slice_index p.words word) d → value mul p ts ≡ h d p

  -- a bit of the word
  abbrev pub IsBitOf : ℕ → Terms → Type 0
  IsBitOf place = IsReading (λ d p. bit_at d place)

  -- a term with the first j of its bits of the word, read from the word
  abbrev pub IsProductOf : Monomial × ℕ → ℕ → Terms → Type 0
  IsProductOf t j = IsReading (λ d p. term_value mul (with_word k word d p) (first_bits k word j t))

  -- a term with all its bits of the word read from the word
  abbrev pub IsTermRead : Monomial × ℕ → Terms → Type 0
  IsTermRead t = IsReading (λ d p. term_value mul (with_word k word d p) t)

  -- the first s of these terms, with their bits of the word read from the word
  abbrev pub IsSumOf : Terms → ℕ → Terms → Type 0
  IsSumOf terms s = IsReading (λ d p. value mul (with_word k word d p) (take s terms))

-- the word exists, and so do term s, counted from 1, and the j-th of its bits of the word
pub record HasBitAt (k count : ℕ) (terms : Terms) (word s j : ℕ) : Type 0 where
  pub within : word < count
  pub place : ℕ
  pub term : Monomial × ℕ
  pub number : place + 1 ≡ s
  pub at : slice_get terms place ≡ Some term
  pub some : 1 ≤ j
  pub bits : j ≤ length (word_bits k word term)

-- a polynomial of the product stage of each well-formed circuit with these words whose mix of the words before has these terms
abbrev pub IsProductStage : ℕ → (ℕ → ℕ → ℕ) → List CircuitWord → Terms → ℕ → ℕ → ℕ → Terms → Type 0
IsProductStage k mul words terms w s j ts = (net : NetList) (output : CircuitWord) → IsWellFormed (circuit_of_parts k mul net words output) → IsOfStage k mul (IsMix (circuit_of_parts k mul net words output) w) terms → IsOfStage k mul (IsTermProduct (circuit_of_parts k mul net words output) w s j) ts

-- a polynomial of the sum stage of each well-formed circuit with these words whose mix of the words before has these terms
abbrev pub IsSumStage : ℕ → (ℕ → ℕ → ℕ) → List CircuitWord → Terms → ℕ → ℕ → Terms → Type 0
IsSumStage k mul words terms w s ts = (net : NetList) (output : CircuitWord) → IsWellFormed (circuit_of_parts k mul net words output) → IsOfStage k mul (IsMix (circuit_of_parts k mul net words output) w) terms → IsOfStage k mul (IsTermSum (circuit_of_parts k mul net words output) w s) ts
