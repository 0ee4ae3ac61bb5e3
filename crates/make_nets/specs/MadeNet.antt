-- The net list of a plan. Source: this project's own; names as the BLIF format of UC Berkeley has them.
use Rattle.std.specs.Prelude.{ℕ, ◌-◌, true, List, [], ◌++◌, length, map}
use Rattle.std.specs.List.{range_with_len}
use Rattle.std.specs.Fmt.{decimal}
use Rattle.net_core.specs.LatchValue.{LatchValue}
use Rattle.net_core.specs.NetList.{LabelValue, NetList}
use Rattle.make_nets.specs.Plan.{Plan}

-- a net of this name
abbrev pub named : List ℕ → LabelValue
named name = record { text = name; named = true }

-- the name of the i-th inner net
abbrev pub inner_name : List ℕ → ℕ → List ℕ
inner_name prefix i = prefix ++ decimal i

-- what nets are called: outer ones first, and then so many inner ones by the prefix and their number among them
abbrev pub labels_with : List (List ℕ) → List ℕ → ℕ → List LabelValue
labels_with names prefix count = map named names ++ map (λ i. named (inner_name prefix i)) (range_with_len 0 count)

-- what the nets of a plan are called
abbrev pub labels_of : List (List ℕ) → List ℕ → Plan → List LabelValue
labels_of names prefix plan = labels_with names prefix (plan.next - length names)

-- the net list of a plan over outer nets of these names
abbrev pub made_net : List (List ℕ) → List ℕ → List ℕ → List ℕ → List LatchValue → Plan → NetList
made_net names prefix inputs outputs latches plan =
    record { labels = labels_of names prefix plan; inputs = inputs; outputs = outputs; gates = plan.gates; latches = latches }

-- outer nets of these names, and nothing on them yet
abbrev pub outer_net : List (List ℕ) → NetList
outer_net names = record { labels = map named names; inputs = []; outputs = []; gates = []; latches = [] }

-- what the nets of a net list are called
abbrev pub names_in : NetList → List (List ℕ)
names_in net = map (λ (l : LabelValue). l.text) net.labels

-- with so many inner nets of this prefix
abbrev pub with_inner : NetList → List ℕ → ℕ → NetList
with_inner net prefix count = record net { labels = net.labels ++ map (λ i. named (inner_name prefix i)) (range_with_len 0 count) }
