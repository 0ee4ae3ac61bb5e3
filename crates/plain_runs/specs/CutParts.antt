-- What the plain program says of a cut. Source: this project's own.
use Rattle.std.specs.Prelude.{ℕ, Bool, List}
use Rattle.net_core.specs.NetList.{NetList}
use Rattle.net_core.specs.Order.{IsElimination}
use Rattle.poly_mixed.specs.Polynomial.{Terms, Point}
use Rattle.circuit_model.specs.Circuit.{Circuit}
use Rattle.stage_model.specs.Cut.{CutOf, IsSettled}
use Rattle.stage_model.specs.Stage.{IsOfStage, HasSize}

-- a polynomial of cut t of the circuit
abbrev pub IsOfCut : Circuit → ℕ → Terms → Type 0
IsOfCut circuit t ts = IsOfStage circuit.k circuit.product (CutOf circuit t) ts

-- the size of cut t of the circuit
abbrev pub HasCutSize : Circuit → ℕ → ℕ → Type 0
HasCutSize circuit t n = HasSize circuit.k circuit.product (CutOf circuit t) n

-- the bits agree with the point, where the first t gates of an order of elimination are settled
abbrev pub AreSettledAt : NetList → List ℕ → ℕ → Point → List Bool → Type 0
AreSettledAt net variables t p bits = (order : List ℕ) × IsElimination net order × IsSettled net variables order t p bits
