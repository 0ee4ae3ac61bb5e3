-- A function of the input as a polynomial in input, state and fed bits. Source: this project's own.
use Rattle.std.specs.Prelude.{◌≡◌, ℕ, List, length}
use Rattle.poly_mixed.specs.Polynomial.{Terms, Point, IsPoint, IsReduced, value}
use Rattle.poly_mixed.specs.laws.Uniqueness.{InBits}
use Rattle.circuit_model.specs.Word.{word_nets}
use Rattle.circuit_model.specs.Circuit.{Circuit, IsInput}
use Rattle.stage_model.specs.First.{InFirstRanks}
use Rattle.stage_model.specs.InputPoint.{IsAtInput}
use Rattle.spec_expand.specs.Specification.{SpecTerms}
use Rattle.spec_expand.specs.SpecValue.{spec_at}

-- reduced, in the bits of input, state and fed words alone, and wherever these are the bits of an input, the function's value there
pub record IsExpansion (circuit : Circuit) (h : List ℕ → ℕ) (ts : Terms) : Type 0 where
  pub reduced : IsReduced circuit.k ts
  pub bits_alone : InBits ts
  pub words_alone : InFirstRanks (length (word_nets circuit.words)) ts
  pub values : (p : Point) (xs : List ℕ) → IsPoint circuit.k p → IsInput circuit xs → IsAtInput circuit xs p → value circuit.product p ts ≡ h xs

-- the specification as a polynomial in input, state and fed bits
abbrev pub IsSpecExpansion : Circuit → SpecTerms → Terms → Type 0
IsSpecExpansion circuit spec ts = IsExpansion circuit (λ xs. spec_at circuit.product xs spec) ts
