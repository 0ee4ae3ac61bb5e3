-- Gates of plans read at most two nets each.
use Rattle.std.proofs.Common.{◌≡◌, subst, inl, inr, ℕ, ◌≤◌, List, [], ◌∷◌, ◌++◌, length, Option, None, Some, arith}
use Rattle.std.specs.Prelude.{slice_index}
use Rattle.lists.specs.laws.HasLaws.{Has_cases, only_one}
use Rattle.net_core.specs.GateValue.{GateValue}
use Rattle.make_nets.specs.Plan.{Plan, begun, driven_by, each, with_gate, with_zero, with_buffer, with_and, with_xor, with_links, with_chain}
use Rattle.make_nets.specs.Row.{Row, begun_row, next_net, row_by, and_row, xor_row}
use Rattle.make_nets.specs.ShortPlan.{ReadTwo}
use Rattle.make_nets.proofs.EachLemmas.{each_keeps}

-- there is no gate yet
pub begun_two : (n : ℕ) → ReadTwo (begun n)
begun_two n g has = absurd (let got = has.1 in cc)

gate_two : (target : Option ℕ) (inputs : List ℕ) (table : ℕ) (plan : Plan) → length inputs ≤ 2 → ReadTwo plan → ReadTwo (with_gate target inputs table plan)
gate_two target inputs table plan few two g has =
    let gate : GateValue = record { out = driven_by target plan; inputs = inputs; table = table } in
    elim (Has_cases plan.gates (gate ∷ []) g has) [
      | inl before ↦ two g before
      | inr here ↦ let P : GateValue → Type 0 = λ h. length h.inputs ≤ 2 in subst P (only_one gate g here) few
    ]

pub and_two : (target : Option ℕ) (a b : ℕ) (plan : Plan) → ReadTwo plan → ReadTwo (with_and target a b plan)
and_two target a b plan two = gate_two target (a ∷ b ∷ []) 8 plan (omega arith) two

pub xor_two : (target : Option ℕ) (a b : ℕ) (plan : Plan) → ReadTwo plan → ReadTwo (with_xor target a b plan)
xor_two target a b plan two = gate_two target (a ∷ b ∷ []) 6 plan (omega arith) two

pub buffer_two : (target : Option ℕ) (a : ℕ) (plan : Plan) → ReadTwo plan → ReadTwo (with_buffer target a plan)
buffer_two target a plan two = gate_two target (a ∷ []) 2 plan (omega arith) two

links_two : (target : Option ℕ) (a b : ℕ) (rest : List ℕ) (plan : Plan) → ReadTwo plan → ReadTwo (with_links target a b rest plan)
links_two target a b [] plan two = xor_two target a b plan two
links_two target a b (c ∷ rest) plan two = links_two target plan.next c rest (with_xor None a b plan) (xor_two None a b plan two)

pub chain_two : (target : Option ℕ) (list : List ℕ) (plan : Plan) → ReadTwo plan → ReadTwo (with_chain target list plan)
chain_two target [] plan two = gate_two target [] 0 plan (omega arith) two
chain_two target (a ∷ []) plan two = buffer_two target a plan two
chain_two target (a ∷ b ∷ rest) plan two = links_two target a b rest plan two

-- steps that keep it
pub each_two : (n : ℕ) (step : ℕ → Plan → Plan) (start : Plan) → ReadTwo start → ((i : ℕ) (plan : Plan) → ReadTwo plan → ReadTwo (step i plan)) → ReadTwo (each n step start)
each_two n step start two kept = each_keeps (λ i plan. ReadTwo plan) step start n two (λ i plan less. kept i plan)

-- rows whose gates keep it
pub row_two : (k : ℕ) (after : ℕ → Plan → Plan) (net : ℕ → Plan → ℕ) (plan : Plan) → ReadTwo plan → ((j : ℕ) (p : Plan) → ReadTwo p → ReadTwo (after j p)) → ReadTwo (row_by k after net plan).plan
row_two k after net plan two kept =
    each_keeps (λ j (row : Row). ReadTwo row.plan) (λ j row. record { plan = after j row.plan; nets = row.nets ++ net j row.plan ∷ [] }) (begun_row plan) k two (λ j row less. kept j row.plan)

pub and_row_two : (k a : ℕ) (nets : List ℕ) (plan : Plan) → ReadTwo plan → ReadTwo (and_row k a nets plan).plan
and_row_two k a nets plan two = row_two k (λ j. with_and None a (slice_index nets j)) next_net plan two (λ j p. and_two None a (slice_index nets j) p)

pub xor_row_two : (k : ℕ) (first second : List ℕ) (plan : Plan) → ReadTwo plan → ReadTwo (xor_row k first second plan).plan
xor_row_two k first second plan two =
    row_two k (λ j. with_xor None (slice_index first j) (slice_index second j)) next_net plan two (λ j p. xor_two None (slice_index first j) (slice_index second j) p)
