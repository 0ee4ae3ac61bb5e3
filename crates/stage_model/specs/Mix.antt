-- The output as a function of the first words and of the bits of the others. Source: this project's own.
use Rattle.std.specs.Prelude.{◌≡◌, ℕ, ◌<◌, ◌≤◌, List, Some, length, slice_get}
use Rattle.net_core.specs.NetList.{nets}
use Rattle.poly_mixed.specs.Polynomial.{Point, Terms}
use Rattle.circuit_model.specs.Word.{Word, HasElement}
use Rattle.circuit_model.specs.Circuit.{Circuit}
use Rattle.circuit_model.specs.Out.{IsOut}
use Rattle.stage_model.specs.Variables.{point_bits, variables_of}
use Rattle.stage_model.specs.Stage.{IsOfStage}

-- the input whose first w words have the point's elements and whose other words have the point's bits
pub record IsMixedInput (circuit : Circuit) (w : ℕ) (p : Point) (xs : List ℕ) : Type 0 where
  pub words : (i x : ℕ) → i < w → slice_get xs i ≡ Some x → slice_get p.words i ≡ Some x
  pub bits : (i x : ℕ) (word : Word) → w ≤ i → slice_get circuit.words i ≡ Some word → slice_get xs i ≡ Some x → HasElement (point_bits (nets circuit.net) (variables_of circuit) p) word x

-- mix w relates the point to the output at that input
pub record IsMix (circuit : Circuit) (w : ℕ) (p : Point) (e : ℕ) : Type 0 where
  pub xs : List ℕ
  pub mixed : IsMixedInput circuit w p xs
  pub output : IsOut circuit xs e

-- the mix of all words: the output at the point's elements
abbrev pub MixOfAllWords : Circuit → Point → ℕ → Type 0
MixOfAllWords circuit = IsMix circuit (length circuit.words)

-- a polynomial of mix w, in which word w is the next that is replaced
abbrev pub IsOfMix : Circuit → ℕ → Terms → Type 0
IsOfMix circuit w ts = IsOfStage circuit.k circuit.product (IsMix circuit w) ts
