-- Gates that are added do not depend on those that there are.
use Rattle.std.proofs.Common.{◌≡◌, ◌∙◌, ap, sym, refl, ℕ, zero, suc, List, [], ◌∷◌, ◌++◌, Option, None, Some, append-nil}
use Rattle.std.specs.Prelude.{slice_index}
use Rattle.std.proofs.lemmas.List.{append_assoc}
use Rattle.net_core.specs.GateValue.{GateValue}
use Rattle.make_nets.specs.Plan.{Plan, begun, with_gate, with_xor, with_links, with_chain}
use Rattle.mult_gen.specs.Chains.{chains}

-- the plan after these gates
abbrev pub after : List GateValue → Plan → Plan
after gates plan = record { next = plan.next; gates = gates ++ plan.gates }

gate_after : (gates : List GateValue) (target : Option ℕ) (inputs : List ℕ) (table : ℕ) (plan : Plan) → with_gate target inputs table (after gates plan) ≡ after gates (with_gate target inputs table plan)
gate_after gates None inputs table plan = ap (λ (gs : List GateValue). record { next = suc plan.next; gates = gs }) (append_assoc gates plan.gates (record { out = plan.next; inputs = inputs; table = table } ∷ []))
gate_after gates (Some n) inputs table plan = ap (λ (gs : List GateValue). record { next = plan.next; gates = gs }) (append_assoc gates plan.gates (record { out = n; inputs = inputs; table = table } ∷ []))

links_after : (gates : List GateValue) (target : Option ℕ) (a b : ℕ) (rest : List ℕ) (plan : Plan) → with_links target a b rest (after gates plan) ≡ after gates (with_links target a b rest plan)
links_after gates target a b [] plan = gate_after gates target (a ∷ b ∷ []) 6 plan
links_after gates target a b (c ∷ rest) plan = ap (λ (p : Plan). with_links target plan.next c rest p) (gate_after gates None (a ∷ b ∷ []) 6 plan) ∙ links_after gates target plan.next c rest (with_xor None a b plan)

chain_after : (gates : List GateValue) (target : Option ℕ) (list : List ℕ) (plan : Plan) → with_chain target list (after gates plan) ≡ after gates (with_chain target list plan)
chain_after gates target [] plan = gate_after gates target [] 0 plan
chain_after gates target (a ∷ []) plan = gate_after gates target (a ∷ []) 2 plan
chain_after gates target (a ∷ b ∷ rest) plan = links_after gates target a b rest plan

chains_after : (gates : List GateValue) (k : ℕ) (z : List ℕ) (lists : ℕ → List ℕ) (plan : Plan) → chains k z lists (after gates plan) ≡ after gates (chains k z lists plan)
chains_after gates zero z lists plan = refl
chains_after gates (suc k) z lists plan = ap (with_chain (Some (slice_index z k)) (lists k)) (chains_after gates k z lists plan) ∙ chain_after gates (Some (slice_index z k)) (lists k) (chains k z lists plan)

-- the gates of chains come after those that there are
pub chains_gates : (k : ℕ) (z : List ℕ) (lists : ℕ → List ℕ) (plan : Plan) → (chains k z lists plan).gates ≡ plan.gates ++ (chains k z lists (begun plan.next)).gates
chains_gates k z lists plan =
    ap (λ (gs : List GateValue). (chains k z lists (record { next = plan.next; gates = gs })).gates) (sym (append-nil plan.gates))
    ∙ ap (λ (p : Plan). p.gates) (chains_after plan.gates k z lists (begun plan.next))
