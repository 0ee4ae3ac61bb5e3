-- What feeds a specification: the words of a circuit in their bits, as polynomials of functions of the input.
-- Source: this project's own.
use Rattle.std.specs.Prelude.{◌≡◌, ℕ, ◌+◌, ◌*◌, List, Some, length, slice_get, slice_index}
use Rattle.irreducible.specs.Span.{combination}
use Rattle.gf_basis.specs.Basis.{first_values}
use Rattle.net_core.specs.Sound.{IsSound}
use Rattle.net_words.specs.Binding.{BoundNet}
use Rattle.net_words.specs.OneCycle.{IsOneCycle}
use Rattle.gf_basis.specs.declared.bases.Basis.{Basis}
use Rattle.poly_mixed.specs.Polynomial.{Terms, Point, IsPoint, IsReduced, IsPolynomialOf, value}
use Rattle.poly_mixed.specs.Table.{index}
use Rattle.circuit_model.specs.Circuit.{Circuit, IsInput}
use Rattle.stage_model.specs.InputPoint.{IsAtInput}
use Rattle.circuit_model.specs.Bases.{AreBases}
use Rattle.circuit_model.specs.Places.{places_from}

-- a sound net with its words, bases of a field, and the numbers of the input, state and fed words
pub record IsSetting (k : ℕ) (mul : ℕ → ℕ → ℕ) (netlist : BoundNet) (bases : List Basis) (places : List ℕ) : Type 0 where
  pub sound : IsSound netlist.net
  pub is_bound : IsOneCycle netlist.net netlist.binding
  pub bits : netlist.binding.k ≡ k
  pub bases_are : AreBases k mul netlist bases
  pub places_are : places ≡ places_from 0 netlist.binding.words

-- the element of these basis elements whose bits the point has at the places of word w
abbrev pub element_in_bits : ℕ → List ℕ → ℕ → Point → ℕ
element_in_bits k elements w p = combination elements (index p.is_one (first_values k (λ i. k * w + i)))

-- the polynomial of that element
abbrev pub IsWordInBits : ℕ → (ℕ → ℕ → ℕ) → List ℕ → ℕ → Terms → Type 0
IsWordInBits k mul elements w ts = IsPolynomialOf k mul (element_in_bits k elements w) ts

module _ (circuit : Circuit) where
  -- a reduced polynomial that has the function's value at each point with the bits of an input
  pub record IsOfInput (h : List ℕ → ℕ) (ts : Terms) : Type 0 where
    pub reduced : IsReduced circuit.k ts
    pub values : (p : Point) (xs : List ℕ) → IsPoint circuit.k p → IsInput circuit xs → IsAtInput circuit xs p → value circuit.product p ts ≡ h xs

  -- each polynomial has the value of the word of its number
  abbrev pub AreOfWords : List Terms → Type 0
  AreOfWords feeds = (w : ℕ) (ts : Terms) → slice_get feeds w ≡ Some ts → IsOfInput (λ xs. slice_index xs w) ts

  -- these are all input, state and fed words in their bits
  pub record AreWordsInBits (feeds : List Terms) : Type 0 where
    pub long : length feeds ≡ length circuit.words
    pub each : AreOfWords feeds
