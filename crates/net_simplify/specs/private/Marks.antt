-- Uses of nets, counted up to 2, and what a net list is made of. Source: this project's own.
use Rattle.std.specs.Prelude.{◌≡◌, ℕ, min, List, [], map, slice_get, take, unwrap_or}
use Rattle.net_core.specs.GateValue.{GateValue}
use Rattle.net_core.specs.NetList.{NetList, empty}
use Rattle.net_simplify.specs.Choice.{Forms}
use Rattle.net_simplify.specs.Simplified.{simple_gate}

-- what is counted of a net
abbrev pub count_at : List ℕ → ℕ → ℕ
count_at marks n = unwrap_or (slice_get marks n) 0

-- the counts, where 2 stands for more too
abbrev pub AreCounts : List ℕ → (ℕ → ℕ) → Type 0
AreCounts marks f = (n : ℕ) → count_at marks n ≡ min 2 (f n)

-- the gates at these positions
abbrev pub gates_by : List GateValue → List ℕ → List GateValue
gates_by gates order = map (λ p. unwrap_or (slice_get gates p) (record { out = 0; inputs = []; table = 0 })) order

-- nothing is made but the first nets, with their labels
abbrev pub HasLabelsTo : NetList → ℕ → NetList → Type 0
HasLabelsTo net number made = made ≡ record empty { labels = take number net.labels }

-- the net list with the same labels, inputs and outputs, with the gates that the forms give, and without latches
abbrev pub remade : NetList → (ℕ → ℕ) → Forms → NetList
remade net used forms = record empty { labels = net.labels; inputs = net.inputs; outputs = net.outputs; gates = map (simple_gate used forms) net.gates }
