-- Gates. Source: the covers of the BLIF format of UC Berkeley, written as a table of bits.
use Rattle.std.specs.Prelude.{ℕ, List}

-- Where the values of the inputs are v_0, v_1, .., the output is bit `sum of v_i * 2^i` of the table.
pub record GateValue : Type 0 where
  pub out : ℕ
  pub inputs : List ℕ
  pub table : ℕ
