-- What the plain program makes on its way. Source: this project's own.
use Rattle.std.specs.Prelude.{◌≡◌, ◌≢◌, ℕ, ◌<◌, ◌≤◌, Bool, cond, nat_lt, List, Some, false, length, slice_get, slice_index_or}
use Rattle.net_core.specs.NetList.{NetList, nets}
use Rattle.net_core.specs.GateValue.{GateValue}
use Rattle.net_core.specs.Value.{bit_of, IsRight}
use Rattle.poly_mixed.specs.Polynomial.{Point, IsPoint, Terms, IsReduced, value}
use Rattle.circuit_model.specs.Word.{Word}
use Rattle.stage_model.specs.Variables.{rank_in}
use Rattle.stage_model.specs.Cut.{IsCut}

-- the gate at a place of the order, the first place being `from` and the last before `to`
pub record IsAt (net : NetList) (order : List ℕ) (from to : ℕ) (g : GateValue) : Type 0 where
  pub place : ℕ
  pub position : ℕ
  pub first : from ≤ place
  pub last : place < to
  pub at_order : slice_get order place ≡ Some position
  pub at_net : slice_get net.gates position ≡ Some g

-- the gates at these places of the order have their tables' bits, and all nets but their outputs the bits of `start`
pub record AreSettledFrom (net : NetList) (order : List ℕ) (from to : ℕ) (start bits : List Bool) : Type 0 where
  pub long : length bits ≡ nets net
  pub right : (g : GateValue) → IsAt net order from to g → IsRight bits g
  pub free : (n : ℕ) → ((g : GateValue) → IsAt net order from to g → g.out ≢ n) → bit_of bits n ≡ bit_of start n

-- each net is among the variables
abbrev pub HasEachNet : NetList → List ℕ → Type 0
HasEachNet net variables = (n : ℕ) → n < nets net → rank_in variables n < length variables

-- the point with these bits at the first ranks
abbrev pub with_first : List Bool → Point → Point
with_first bits p = record { words = p.words; is_one = λ r. cond (nat_lt r (length bits)) (slice_index_or bits r false) (p.is_one r) }

module _ (k : ℕ) (mul : ℕ → ℕ → ℕ) where
  -- at each point the value of one where the bit of this rank is 1, and that of zero where it is 0
  abbrev pub IsChoice : ℕ → Terms → Terms → Terms → Type 0
  IsChoice rank zero one ts = (p : Point) → IsPoint k p → value mul p ts ≡ cond (p.is_one rank) (value mul p one) (value mul p zero)

  -- a polynomial of the cut where the first ranks have these bits
  pub record IsCutAfter (net : NetList) (variables : List ℕ) (output : Word) (t : ℕ) (bits : List Bool) (ts : Terms) : Type 0 where
    pub reduced : IsReduced k ts
    pub values : (p : Point) → IsPoint k p → IsCut net variables output t (with_first bits p) (value mul p ts)
