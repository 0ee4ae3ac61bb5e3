-- The net list of what was read. Source: Armin Biere, The AIGER And-Inverter Graph (AIG) Format, Johannes Kepler University,
-- Linz, 2007; nets and tables are those of net_core.
use Rattle.std.specs.Prelude.{ℕ, ◌+◌, ◌%◌, ◌==◌, ◌&&◌, nat_lt, nat_le, true, false, Bool, List, [], ◌∷◌, ◌++◌, Option, None, Some, drop, length, Result, Ok, Err, if◌then◌else◌}
use Rattle.std.specs.Fmt.{decimal}
use Rattle.lists.specs.Limits.{most_nets}
use Rattle.net_core.specs.GateValue.{GateValue}
use Rattle.net_core.specs.LatchValue.{LatchValue}
use Rattle.net_core.specs.NetList.{NetList, empty, nets, with_gate, with_label, with_latch}
use Rattle.net_core.specs.declared.fault.NetFault.{NetFault}
use Rattle.net_core.specs.declared.fault.NetFault.TheVariants.{TooManyNets, TooManyGates}
use Rattle.net_aiger.specs.Checks.{own}
use Rattle.net_aiger.specs.Reading.{Name, Reading, driven, net_of, port_name, variable_net}
use Rattle.net_aiger.specs.Steps.{◌>>=◌}
use Rattle.net_aiger.specs.declared.reading.AndLine.{AndLine}
use Rattle.net_aiger.specs.declared.reading.LatchLine.{LatchLine}

-- ---- one more net, gate or latch, of which there are at most 1,048,576 nets and as many gates and latches

abbrev pub labelled : Name → Bool → NetList → Result NetList NetFault
labelled text named net = if nat_le most_nets (nets net) then Err TooManyNets else Ok (with_label net text named)

abbrev pub gated : GateValue → NetList → Result NetList NetFault
gated gate net = if nat_le most_nets (length net.gates + length net.latches) then Err TooManyGates else Ok (with_gate net gate)

abbrev pub latched : LatchValue → NetList → Result NetList NetFault
latched latch net = if nat_le most_nets (length net.gates + length net.latches) then Err TooManyGates else Ok (with_latch net latch)

-- ---- the nets of inputs, latches and ANDs

-- the net of an input or a latch has the port's name, that of an AND has its literal as a label
abbrev pub variable_made : Reading → ℕ → ℕ → NetList → Result NetList NetFault
variable_made reading n literal net =
    if nat_lt n reading.header.inputs then (labelled (port_name reading n) true net >>= (λ more. Ok (record more { inputs = more.inputs ++ n ∷ [] })))
    else (if nat_lt n (driven reading.header) then labelled (port_name reading n) true net
    else labelled (decimal literal) false net)

abbrev pub variables_made : Reading → ℕ → List ℕ → NetList → Result NetList NetFault
variables_made reading n [] net = Ok net
variables_made reading n (literal ∷ literals) net = variable_made reading n literal net >>= (λ more. variables_made reading (n + 1) literals more)

-- ---- gates

-- the variable of a literal, if it is no constant
abbrev pub inputs_of : Reading → ℕ → List ℕ
inputs_of reading literal = if nat_lt literal 2 then [] else variable_net reading literal ∷ []

-- a constant, a buffer, or an inverter, as a table over those
abbrev pub table_of : ℕ → ℕ
table_of literal = if nat_lt literal 2 then literal else (if literal % 2 == 0 then 2 else 1)

-- the net has a literal's value
abbrev pub literal_gate : Reading → ℕ → ℕ → GateValue
literal_gate reading out literal = record { out = out; inputs = inputs_of reading literal; table = table_of literal }

-- the conjunction of two literals, as a table over their variables
abbrev pub and_table : ℕ → ℕ → ℕ
and_table left right =
    if nat_lt left 2 then (if left == 0 then 0 else table_of right)
    else (if nat_lt right 2 then (if right == 0 then 0 else table_of left)
    else (if right % 2 == 0 then (if left % 2 == 0 then 8 else 4) else (if left % 2 == 0 then 2 else 1)))

abbrev pub and_gate : Reading → ℕ → AndLine → GateValue
and_gate reading out line = record { out = out; inputs = inputs_of reading line.left ++ inputs_of reading line.right; table = and_table line.left line.right }

-- the gate of an AND drives the net of its literal
abbrev pub and_made : Reading → Option ℕ → AndLine → NetList → Result NetList NetFault
and_made reading None line net = Ok net
and_made reading (Some out) line net = gated (and_gate reading out line) net

abbrev pub ands_made : Reading → List AndLine → NetList → Result NetList NetFault
ands_made reading [] net = Ok net
ands_made reading (line ∷ ands) net = and_made reading (net_of reading line.literal) line net >>= (λ more. ands_made reading ands more)

-- ---- latches

-- a literal that is its variable
abbrev pub is_plain : ℕ → Bool
is_plain literal = nat_le 2 literal && (literal % 2 == 0)

abbrev pub latch_on : ℕ → ℕ → LatchLine → LatchValue
latch_on next out latch = record { next = next; out = out; start = latch.start }

-- a latch that holds a fresh net next, which has the literal's value
abbrev pub fresh_latch : Reading → ℕ → LatchLine → NetList → Result NetList NetFault
fresh_latch reading out latch net =
    labelled (decimal latch.next) false net >>= (λ more. gated (literal_gate reading (nets net) latch.next) more >>= (λ with. latched (latch_on (nets net) out latch) with))

-- what a latch holds next is its literal's variable, or a fresh net
abbrev pub latch_made : Reading → Option ℕ → LatchLine → NetList → Result NetList NetFault
latch_made reading None latch net = Ok net
latch_made reading (Some out) latch net =
    if is_plain latch.next then latched (latch_on (variable_net reading latch.next) out latch) net else fresh_latch reading out latch net

abbrev pub latches_made : Reading → List LatchLine → NetList → Result NetList NetFault
latches_made reading [] net = Ok net
latches_made reading (latch ∷ latches) net = latch_made reading (net_of reading latch.literal) latch net >>= (λ more. latches_made reading latches more)

-- ---- outputs

abbrev pub with_output : ℕ → NetList → NetList
with_output n net = record net { outputs = net.outputs ++ n ∷ [] }

-- an output is the net of its own input or latch, or a net of its name with its literal's value
abbrev pub output_made : Reading → ℕ → ℕ → Option ℕ → NetList → Result NetList NetFault
output_made reading port literal (Some n) net = Ok (with_output n net)
output_made reading port literal None net =
    labelled (port_name reading port) true net >>= (λ more. gated (literal_gate reading (nets net) literal) more >>= (λ with. Ok (with_output (nets net) with)))

abbrev pub outputs_made : Reading → ℕ → List ℕ → NetList → Result NetList NetFault
outputs_made reading port [] net = Ok net
outputs_made reading port (literal ∷ literals) net = output_made reading port literal (own reading port literal) net >>= (λ more. outputs_made reading (port + 1) literals more)

-- ---- the whole

-- the gates of the ANDs, the latches, and the outputs
abbrev pub rest_made : Reading → NetList → Result NetList NetFault
rest_made reading variables =
    ands_made reading reading.ands variables >>= (λ ands.
    latches_made reading reading.latches ands >>= (λ latches.
    outputs_made reading (driven reading.header) (drop (driven reading.header) reading.ports) latches))

-- first the nets of inputs, latches and ANDs: the first that passes a limit decides
abbrev pub net_made : Reading → Result NetList NetFault
net_made reading = variables_made reading 0 reading.defined empty >>= (λ variables. rest_made reading variables)
