-- Cuts: the output word as a function of all nets but the outputs of the gates that are eliminated first.
-- Source: Lv, Kalla, Enescu, IEEE TCAD 2013, for elimination in reverse topological order; the exact order is this project's own.
use Rattle.std.specs.Prelude.{◌≡◌, ◌≢◌, ℕ, ◌<◌, Bool, List, Some, length, slice_get}
use Rattle.net_core.specs.NetList.{NetList, nets}
use Rattle.net_core.specs.Sound.{IsSound}
use Rattle.net_core.specs.GateValue.{GateValue}
use Rattle.net_core.specs.Order.{IsElimination}
use Rattle.net_core.specs.Value.{bit_of, IsRight}
use Rattle.net_words.specs.Binding.{BoundNet}
use Rattle.net_words.specs.Variables.{variables}
use Rattle.poly_mixed.specs.Polynomial.{Point, Terms}
use Rattle.circuit_model.specs.FieldLaws.{FieldLaws}
use Rattle.circuit_model.specs.Word.{Word, HasElement}
use Rattle.circuit_model.specs.Circuit.{Circuit}
use Rattle.circuit_model.specs.OfBinding.{output_word}
use Rattle.circuit_model.specs.BasedNet.{BasedNet, based_output_basis}
use Rattle.stage_model.specs.Variables.{point_bit, variables_of}
use Rattle.stage_model.specs.Stage.{IsOfStage}

-- the gate is among the first t of the order
abbrev pub IsAmongFirst : NetList → List ℕ → ℕ → GateValue → Type 0
IsAmongFirst net order t g = (i : ℕ) × (p : ℕ) × (i < t) × (slice_get order i ≡ Some p) × (slice_get net.gates p ≡ Some g)

-- bits that agree with the point on all nets but the outputs of the first t gates, and with these gates' tables
pub record IsSettled (net : NetList) (variables : List ℕ) (order : List ℕ) (t : ℕ) (p : Point) (bits : List Bool) : Type 0 where
  pub long : length bits ≡ nets net
  pub free : (n : ℕ) → n < nets net → ((g : GateValue) → IsAmongFirst net order t g → g.out ≢ n) → bit_of bits n ≡ point_bit variables p n
  pub right : (g : GateValue) → IsAmongFirst net order t g → IsRight bits g

-- cut t relates the point to e: the output word's element, the first t gates of the order of elimination being settled and all other nets free
pub record IsCut (net : NetList) (variables : List ℕ) (output : Word) (t : ℕ) (p : Point) (e : ℕ) : Type 0 where
  pub order : List ℕ
  pub elimination : IsElimination net order
  pub bits : List Bool
  pub settled : IsSettled net variables order t p bits
  pub element : HasElement bits output e

-- the cuts of a circuit
abbrev pub CutOf : Circuit → ℕ → Point → ℕ → Type 0
CutOf circuit = IsCut circuit.net (variables_of circuit) circuit.output

-- the last cut of a circuit, where all gates are eliminated
abbrev pub LastCutOf : Circuit → Point → ℕ → Type 0
LastCutOf circuit = CutOf circuit (length circuit.net.gates)

-- the cuts of a net list with bound words, where the output word has this basis
abbrev pub BoundCut : BoundNet → List ℕ → ℕ → Point → ℕ → Type 0
BoundCut circuit basis = IsCut circuit.net (variables (nets circuit.net) circuit.binding.words) (output_word circuit.binding.words basis)

-- the cuts of a net list in bases, where its circuit is not made
abbrev pub BasedCut : BasedNet → ℕ → Point → ℕ → Type 0
BasedCut based = BoundCut based.netlist (based_output_basis based)

-- a polynomial of the last cut of a circuit, where all gates are eliminated
abbrev pub IsOfLastCut : Circuit → Terms → Type 0
IsOfLastCut circuit ts = IsOfStage circuit.k circuit.product (LastCutOf circuit) ts

-- a polynomial of the last cut of a net list in bases
abbrev pub IsOfLastBasedCut : BasedNet → Terms → Type 0
IsOfLastBasedCut based ts = IsOfStage based.k based.product (BasedCut based (length based.netlist.net.gates)) ts

-- what is said of each sound net list over each field, with its variables and an output word
abbrev pub OfSoundNets : ((k : ℕ) → (ℕ → ℕ → ℕ) → NetList → List ℕ → Word → Type 0) → Type 0
OfSoundNets P = (field : FieldLaws) (net : NetList) (variables : List ℕ) (output : Word) → IsSound net → P field.k field.product net variables output
