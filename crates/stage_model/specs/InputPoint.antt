-- Points that stand for inputs. Source: this project's own.
use Rattle.std.specs.Prelude.{◌≡◌, ℕ, List}
use Rattle.net_core.specs.NetList.{nets}
use Rattle.poly_mixed.specs.Polynomial.{Point, IsPoint}
use Rattle.circuit_model.specs.Circuit.{Circuit, IsInput, input_in}
use Rattle.circuit_model.specs.Run.{HaveElements, IsAnyWord}
use Rattle.stage_model.specs.Variables.{point_bits, variables_of}

-- at the nets of each word the point has the bits of the word's element; its other bits are free
abbrev pub IsAtInput : Circuit → List ℕ → Point → Type 0
IsAtInput circuit xs p = HaveElements circuit IsAnyWord xs (point_bits (nets circuit.net) (variables_of circuit) p)

-- the elements are an input, and at the nets of each word the point has its bits
pub record IsInputAt (circuit : Circuit) (xs : List ℕ) (p : Point) : Type 0 where
  pub input : IsInput circuit xs
  pub at : IsAtInput circuit xs p

-- the input that has the point's elements
abbrev pub input_of : Circuit → Point → List ℕ
input_of circuit p = input_in circuit p.words

-- a point that has the elements of the input, and at the nets of each word the bits of the word's element
pub record IsPointOf (circuit : Circuit) (xs : List ℕ) (p : Point) : Type 0 where
  pub point : IsPoint circuit.k p
  pub at : IsAtInput circuit xs p
  pub elements : input_of circuit p ≡ xs
