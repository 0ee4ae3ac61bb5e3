-- A net list with one bit of one table turned over. Source: this project's own.
use Rattle.std.specs.Prelude.{ℕ, zero, suc, ◌^◌, List, [], ◌∷◌, bit_xor}
use Rattle.net_core.specs.GateValue.{GateValue}
use Rattle.net_core.specs.NetList.{NetList}

-- the gate with bit `index` of its table turned over
abbrev pub turned_gate : GateValue → ℕ → GateValue
turned_gate gate index = record gate { table = bit_xor gate.table (2 ^ index) }

-- the gates with the one at the position turned
abbrev pub turned_gates : List GateValue → ℕ → ℕ → List GateValue
turned_gates [] position index = []
turned_gates (gate ∷ gates) zero index = turned_gate gate index ∷ gates
turned_gates (gate ∷ gates) (suc position) index = gate ∷ turned_gates gates position index

-- the net list with bit `index` of the table of the gate at the position turned over, and all else the same
abbrev pub turned : NetList → ℕ → ℕ → NetList
turned net position index = record net { gates = turned_gates net.gates position index }
