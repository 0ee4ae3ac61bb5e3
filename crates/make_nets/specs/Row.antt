-- Plans with a row of their nets. Source: this project's own.
use Rattle.std.specs.Prelude.{ℕ, List, [], ◌∷◌, ◌++◌, None, slice_index}
use Rattle.make_nets.specs.Plan.{Plan, with_and, with_xor, each}

-- the gates so far, and some of the nets, by place
pub record Row : Type 0 where
  pub plan : Plan
  pub nets : List ℕ

-- the row of these nets
abbrev pub row_of : Plan → List ℕ → Row
row_of plan nets = record { plan = plan; nets = nets }

-- no nets yet
abbrev pub begun_row : Plan → Row
begun_row plan = record { plan = plan; nets = [] }

-- with one more net
abbrev pub with_net : ℕ → Row → Row
with_net n row = record { plan = row.plan; nets = row.nets ++ n ∷ [] }

-- the row whose nets come after these
abbrev pub with_nets : List ℕ → Row → Row
with_nets nets row = record { plan = row.plan; nets = nets ++ row.nets }

-- place by place, k places: gates are added, and a net is taken that depends on the gates before
abbrev pub row_by : ℕ → (ℕ → Plan → Plan) → (ℕ → Plan → ℕ) → Plan → Row
row_by k after net plan = each k (λ j row. record { plan = after j row.plan; nets = row.nets ++ net j row.plan ∷ [] }) (begun_row plan)

-- the net that the next gate drives, which is an inner one
abbrev pub next_net : ℕ → Plan → ℕ
next_net j plan = plan.next

-- place by place: the net a and the net of the row
abbrev pub and_row : (k a : ℕ) → List ℕ → Plan → Row
and_row k a row plan = row_by k (λ j. with_and None a (slice_index row j)) next_net plan

-- place by place: one net or the other, but not both
abbrev pub xor_row : (k : ℕ) → List ℕ → List ℕ → Plan → Row
xor_row k first second plan = row_by k (λ j. with_xor None (slice_index first j) (slice_index second j)) next_net plan
