-- The value of a gate at a point, put in at the gate's output. Source: the covers of the BLIF format of UC Berkeley.
use Rattle.std.specs.Prelude.{◌≡◌, ℕ, Bool, cond, List, ◌==◌, bit_xor}
use Rattle.std.specs.Int.{bit_at}
use Rattle.net_core.specs.GateValue.{GateValue}
use Rattle.poly_mixed.specs.Polynomial.{Terms, Point, IsPoint, value}
use Rattle.poly_mixed.specs.Cofactor.{at_bit}
use Rattle.poly_mixed.specs.Table.{index}
use Rattle.stage_model.specs.Variables.{rank_in, point_bit}

-- the bit of the gate's table that the point's bits of its inputs choose
abbrev pub gate_bit_at : List ℕ → GateValue → Point → Bool
gate_bit_at variables gate p = bit_at gate.table (index (point_bit variables p) gate.inputs) == 1

-- the point with that bit at the gate's output
abbrev pub with_gate : List ℕ → GateValue → Point → Point
with_gate variables gate p = at_bit p (rank_in variables gate.out) (gate_bit_at variables gate p)

module _ (k : ℕ) (mul : ℕ → ℕ → ℕ) (variables : List ℕ) (gate : GateValue) where
  -- new has at each point the value of old with the gate's bit at its output
  abbrev pub HasGatePutIn : Terms → Terms → Type 0
  HasGatePutIn old new = (p : Point) → IsPoint k p → value mul p new ≡ value mul (with_gate variables gate p) old

  -- new has at each point the value of old and that of the cofactor where the gate's bit is 1
  abbrev pub AddsWhereGate : Terms → Terms → Terms → Type 0
  AddsWhereGate cofactor old new = (p : Point) → IsPoint k p → value mul p new ≡ bit_xor (value mul p old) (mul (cond (gate_bit_at variables gate p) 1 0) (value mul p cofactor))
