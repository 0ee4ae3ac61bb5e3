-- The values of literals. Source: Armin Biere, The AIGER And-Inverter Graph (AIG) Format, Johannes Kepler University, Linz, 2007.
use Rattle.std.specs.Prelude.{◌≡◌, ℕ, ◌%◌, ◌==◌, ◌&&◌, not, Bool, nat_lt, List, Some, drop, slice_get, if◌then◌else◌}
use Rattle.lists.specs.Lists.{Has}
use Rattle.net_core.specs.LatchValue.{LatchValue}
use Rattle.net_core.specs.NetList.{NetList}
use Rattle.net_core.specs.Value.{bit_of, IsConsistent}
use Rattle.net_aiger.specs.Reading.{Reading, driven, net_of, variable_net}
use Rattle.net_aiger.specs.declared.reading.AndLine.{AndLine}
use Rattle.net_aiger.specs.declared.reading.LatchLine.{LatchLine}

-- 0 and 1 are constants, an even literal has its variable's bit, an odd one the other
abbrev pub literal_value : Reading → List Bool → ℕ → Bool
literal_value reading bits literal =
    if nat_lt literal 2 then literal == 1
    else (if literal % 2 == 0 then bit_of bits (variable_net reading literal) else not (bit_of bits (variable_net reading literal)))

-- in each consistent list of bits the net of an AND has the conjunction of its two literals
abbrev pub HasConjunctions : Reading → NetList → Type 0
HasConjunctions reading net =
    (bits : List Bool) (line : AndLine) (n : ℕ) → IsConsistent net bits → Has reading.ands line → net_of reading line.literal ≡ Some n
    → bit_of bits n ≡ (literal_value reading bits line.left && literal_value reading bits line.right)

-- in each consistent list of bits the net has the literal's value
abbrev pub HasLiteralValue : Reading → NetList → ℕ → ℕ → Type 0
HasLiteralValue reading net n literal = (bits : List Bool) → IsConsistent net bits → bit_of bits n ≡ literal_value reading bits literal

-- each output has the value of its literal
abbrev pub HasOutputValues : Reading → NetList → Type 0
HasOutputValues reading net =
    (i literal : ℕ) → slice_get (drop (driven reading.header) reading.ports) i ≡ Some literal
    → (n : ℕ) × (slice_get net.outputs i ≡ Some n) × HasLiteralValue reading net n literal

-- each latch drives the net of its literal, begins as its line says, and reads a net that has the value of its literal `next`
abbrev pub HasNextValues : Reading → NetList → Type 0
HasNextValues reading net =
    (line : LatchLine) (n : ℕ) → Has reading.latches line → net_of reading line.literal ≡ Some n
    → (latch : LatchValue) × Has net.latches latch × (latch.out ≡ n) × (latch.start ≡ line.start) × HasLiteralValue reading net latch.next line.next
