-- A net list that stands on existing nets is sound, or it has a fault.
use Rattle.std.proofs.Common.{◌≡◌, ◌⊎◌, ◌∙◌, ap, sym, refl, inl, inr, subst, ℕ, zero, suc, ◌<◌, ◌≤◌, ◌+◌, List, [], ◌∷◌, length, map, replicate, Result, Ok, Err, arith}
use Rattle.std.proofs.Math.ListN.{set}
use Rattle.lists.specs.Lists.{Has}
use Rattle.lists.specs.laws.HasLaws.{Has_left, Has_map}
use Rattle.lists.specs.laws.NumberLaws.{nat_eq_or}
use Rattle.lists.specs.laws.ReadLaws.{get_below}
use Rattle.graph_core.specs.Graph.{Graph, edges, HasEdge}
use Rattle.graph_core.specs.Cycle.{IsGrounded, IsCycleOf}
use Rattle.graph_core.proofs.GroundLemmas.{grounded_no_cycle}
use Rattle.graph_core.proofs.LoopLemmas.{cycle_weaker}
use Rattle.reader_laws.proofs.CycleExists.{first_of_cycle, some_cycle}
use Rattle.net_core.specs.GateValue.{GateValue}
use Rattle.net_core.specs.NetList.{NetList, nets, text_of}
use Rattle.net_core.specs.Inside.{IsInside}
use Rattle.net_core.specs.Sound.{drivers, sources, HasOneDriverEach, IsCycle, Needs}
use Rattle.net_core.specs.Driving.{IsGraphOf, roots_of}
use Rattle.net_core.specs.Finish.{Settles}
use Rattle.net_core.specs.declared.fault.NetFault.{NetFault}
use Rattle.net_core.specs.declared.fault.NetFault.TheVariants.{DrivenTwice, Loop, Undriven}
use Rattle.net_core.proofs.NetPath.{IsPath}
use Rattle.net_core.proofs.DrivingLemmas.{all_gates, no_gates, one_gate_more, HasGates}
use Rattle.net_core.proofs.LoopLemmas.{loop_of_cycle}

-- ---- the least number below a bound of which something holds, if there is one

abbrev IsLeast : (ℕ → Type 0) → ℕ → ℕ → Type 0
IsLeast P bound n = (n < bound) × P n × ((m : ℕ) → m < n → P m → ⊥)

module _ (P : ℕ → Type 0) (each : (n : ℕ) → P n ⊎ (P n → ⊥)) where
  none_more : (bound : ℕ) → ((n : ℕ) → n < bound → P n → ⊥) → (P bound → ⊥) → (n : ℕ) → n < suc bound → P n → ⊥
  none_more bound none not n less p = elim (nat_eq_or n bound) [ inl same ↦ not (subst P same p) | inr other ↦ none n (omega (arith, less, other)) p ]

  least_or : (bound : ℕ) → ((n : ℕ) → n < bound → P n → ⊥) ⊎ ((n : ℕ) × IsLeast P bound n)
  least_or zero = inl (λ n less p. absurd (omega (arith, less)))
  least_or (suc bound) =
      elim (least_or bound) [
        | inr found ↦ inr (found.0, (omega (arith, found.1.0), found.1.1, found.1.2))
        | inl none ↦ elim (each bound) [
          | inl here ↦ inr (bound, (omega arith, here, none))
          | inr not ↦ inl (none_more bound none not)
        ]
      ]

two_or : (n : ℕ) → (2 ≤ n) ⊎ (2 ≤ n → ⊥)
two_or zero = inr (λ le. omega (arith, le))
two_or (suc zero) = inr (λ le. omega (arith, le))
two_or (suc (suc n)) = inl (omega arith)

-- ---- the graph of a net list

module _ (net : NetList) (inside : IsInside net) (one : HasOneDriverEach net) where
  graph_to : (k : ℕ) → k ≤ length net.gates → (graph : Graph) × HasGates net k graph
  graph_to zero le = (replicate (nets net) [], no_gates net (replicate (nets net) []) (nets net) refl refl)
  graph_to (suc k) le =
      let before = graph_to k (omega (arith, le)) in
      let g = get_below net.gates k (omega (arith, le)) in
      let new : Graph = set before.0 g.0.out g.0.inputs in
      let e : k + 1 ≡ suc k = omega arith in
      let P : ℕ → Type 0 = λ m. HasGates net m new in
      (new, subst P e (one_gate_more net before.0 new k g.0 inside one g.1 before.1 refl))

  some_graph : (graph : Graph) × IsGraphOf net graph
  some_graph = let whole = graph_to (length net.gates) (omega arith) in (whole.0, all_gates net whole.0 (length net.gates) whole.1 (omega arith))

-- what a gate drives is a root
gate_root : (net : NetList) (a b : ℕ) → Needs net a b → Has (roots_of net) a
gate_root net a b needs =
    let P : ℕ → Type 0 = λ n. Has (roots_of net) n in
    subst P needs.2 (Has_left (map (λ (g : GateValue). g.out) net.gates) (sources net) needs.0.out (Has_map (λ (g : GateValue). g.out) net.gates needs.0 needs.1))

first_root : (net : NetList) (a : ℕ) (rest : List ℕ) (b : ℕ) → IsPath net a rest b → Has (roots_of net) a
first_root net a [] b needs = gate_root net a b needs
first_root net a (c ∷ cs) b path = gate_root net a c path.0

needs_edge : (net : NetList) (graph : Graph) → IsGraphOf net graph → (a b : ℕ) → Needs net a b → HasEdge graph a b
needs_edge net graph is a b needs =
    let same : edges graph a ≡ needs.0.inputs = ap (edges graph) (sym needs.2) ∙ is.gates needs.0 needs.1 in
    let P : List ℕ → Type 0 = λ ns. Has ns b in
    subst P (sym same) needs.3

-- where no walk from a root goes on for ever, gates drive each other in no cycle
no_cycle_of : (net : NetList) (graph : Graph) → IsGraphOf net graph → ((a : ℕ) → Has (roots_of net) a → IsGrounded graph a) → (cycle : List ℕ) → IsCycle net cycle → ⊥
no_cycle_of net graph is all [] cycle = cycle
no_cycle_of net graph is all (a ∷ rest) cycle =
    grounded_no_cycle graph a (all a (first_root net a rest a cycle)) rest (cycle_weaker (Needs net) (HasEdge graph) (needs_edge net graph is) (a ∷ rest) cycle)

-- ---- what comes of it

abbrev SomeOutcome : NetList → Type 0
SomeOutcome net = (outcome : Result NetList NetFault) × Settles net outcome

module _ (net : NetList) (inside : IsInside net) where
  by_cycle : (graph : Graph) → HasOneDriverEach net → IsGraphOf net graph → ((a : ℕ) → Has (roots_of net) a → IsGrounded graph a) ⊎ ((cycle : List ℕ) × IsCycleOf graph (roots_of net) cycle) → SomeOutcome net
  by_cycle graph one is (inl all) = (Ok net, (refl, record { inside = inside; one = one; no_cycle = λ cycle. no_cycle_of net graph is all cycle.0 cycle.1 }))
  by_cycle graph one is (inr found) =
      let first = first_of_cycle graph (roots_of net) found.0 found.1 in
      (Err (Loop found.0 (text_of net first.0)), (one, loop_of_cycle net graph found.0 one inside is found.1, (first.0, first.1, refl)))

  by_graph : HasOneDriverEach net → SomeOutcome net
  by_graph one = let graph = some_graph net inside one in by_cycle graph.0 one graph.1 (some_cycle graph.0 (roots_of net))

  by_none : ((n : ℕ) → n < nets net → 2 ≤ drivers net n → ⊥) → ((n : ℕ) → n < nets net → drivers net n ≡ 0 → ⊥) ⊎ ((n : ℕ) × IsLeast (λ m. drivers net m ≡ 0) (nets net) n) → SomeOutcome net
  by_none few (inl each) = by_graph (λ n less. omega (arith, few n less, each n less))
  by_none few (inr (n, (less, none, before))) =
      (Err (Undriven n (text_of net n)), (less, (λ m below. omega (arith, few m below)), none, (λ m below. omega (arith, few m (omega (arith, below, less)), before m below)), refl))

  by_two : ((n : ℕ) → n < nets net → 2 ≤ drivers net n → ⊥) ⊎ ((n : ℕ) × IsLeast (λ m. 2 ≤ drivers net m) (nets net) n) → SomeOutcome net
  by_two (inl few) = by_none few (least_or (λ m. drivers net m ≡ 0) (λ m. nat_eq_or (drivers net m) 0) (nets net))
  by_two (inr (n, (less, two, before))) = (Err (DrivenTwice n (text_of net n)), (less, two, (λ m below. omega (arith, before m below)), refl))

  pub some_settles : (outcome : Result NetList NetFault) × Settles net outcome
  some_settles = by_two (least_or (λ m. 2 ≤ drivers net m) (λ m. two_or (drivers net m)) (nets net))
