-- The graph of a net list, gate by gate.
use Rattle.std.proofs.Common.{◌≡◌, ◌∙◌, ap, sym, inl, inr, subst, ℕ, ◌<◌, ◌≤◌, ◌+◌, List, [], length, replicate, Some, arith, length-set}
use Rattle.std.specs.Prelude.{slice_get}
use Rattle.std.proofs.Math.ListN.{set}
use Rattle.std.proofs.lemmas.List.{length-replicate}
use Rattle.std.proofs.lemmas.Option.{slice_get_within}
use Rattle.lists.specs.Lists.{Has}
use Rattle.lists.specs.laws.NumberLaws.{nat_eq_or}
use Rattle.graph_core.specs.Graph.{Graph, edges}
use Rattle.graph_core.proofs.GraphLemmas.{edges_set_same, edges_set_other, edges_none}
use Rattle.net_core.specs.GateValue.{GateValue}
use Rattle.net_core.specs.NetList.{NetList, nets}
use Rattle.net_core.specs.Inside.{IsInside}
use Rattle.net_core.specs.Sound.{HasOneDriverEach, sources}
use Rattle.net_core.specs.Driving.{IsGraphOf}
use Rattle.net_core.proofs.DriverLemmas.{gates_apart, gate_inside, source_no_gate}

-- the first k gates have their edges
pub record HasGates (net : NetList) (k : ℕ) (graph : Graph) : Type 0 where
  pub long : length graph ≡ nets net
  pub gates : (j : ℕ) → j < k → (g : GateValue) → slice_get net.gates j ≡ Some g → edges graph g.out ≡ g.inputs
  pub sources : (n : ℕ) → Has (sources net) n → edges graph n ≡ []

pub no_gates : (net : NetList) (graph : Graph) (n : ℕ) → graph ≡ replicate n [] → n ≡ nets net → HasGates net 0 graph
no_gates net graph n is count =
    let P : Graph → Type 0 = HasGates net 0 in
    subst P (sym is) (record {
      long = length-replicate {A = List ℕ} n [] ∙ count;
      gates = λ j less g got. absurd (omega arith);
      sources = λ m has. edges_none n m;
    })

pub one_gate_more : (net : NetList) (graph new : Graph) (k : ℕ) (g : GateValue) → IsInside net → HasOneDriverEach net → slice_get net.gates k ≡ Some g → HasGates net k graph → new ≡ set graph g.out g.inputs → HasGates net (k + 1) new
one_gate_more net graph new k g inside one at has is =
    let within : g.out < length graph = omega (arith, (gate_inside net g inside (k, at)).0, has.long) in
    let P : Graph → Type 0 = HasGates net (k + 1) in
    subst P (sym is) (record {
      long = length-set graph g.out g.inputs ∙ has.long;
      gates = λ j less h got. elim (nat_eq_or j k) [
        | inl same ↦
            let got' : slice_get net.gates k ≡ Some h = ap (slice_get net.gates) (sym same) ∙ got in
            let whole : g ≡ h = cc in
            let Q : GateValue → Type 0 = λ x. edges (set graph g.out g.inputs) x.out ≡ x.inputs in
            subst Q whole (edges_set_same graph g.out g.inputs within)
        | inr other ↦ edges_set_other graph g.out g.inputs h.out (λ same. other (gates_apart net j k h g inside one got at same)) ∙ has.gates j (omega arith) h got
      ];
      sources = λ n source. edges_set_other graph g.out g.inputs n (λ same. source_no_gate net n g inside one source (k, at) (sym same)) ∙ has.sources n source;
    })

pub all_gates : (net : NetList) (graph : Graph) (k : ℕ) → HasGates net k graph → length net.gates ≤ k → IsGraphOf net graph
all_gates net graph k has past =
    record {
      long = has.long;
      gates = λ g at. has.gates at.0 (omega (arith, slice_get_within net.gates at.0 g at.1, past)) g at.1;
      sources = has.sources;
    }
