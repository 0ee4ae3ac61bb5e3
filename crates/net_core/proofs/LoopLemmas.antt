-- Levels, grounded nets and loops.
use Rattle.std.proofs.Common.{◌≡◌, ◌⊎◌, ◌∙◌, ap, sym, refl, inl, inr, subst, ℕ, zero, suc, ◌<◌, List, [], ◌∷◌, ◌++◌, map, Option, None, Some, arith}
use Rattle.std.specs.Prelude.{slice_get}
use Rattle.std.proofs.lemmas.Option.{slice_get-map}
use Rattle.lists.specs.Lists.{Has}
use Rattle.lists.specs.laws.HasLaws.{All_has}
use Rattle.lists.specs.laws.NumberLaws.{even, nat_eq_or}
use Rattle.lists.specs.laws.ReadLaws.{get_front, from_map}
use Rattle.graph_core.specs.Graph.{Graph, edges, HasEdge}
use Rattle.graph_core.specs.Cycle.{IsGrounded, grounded, IsFirstEndless, IsCycleOf}
use Rattle.graph_core.specs.Fault.{IsCycleFault}
use Rattle.graph_core.specs.declared.fault.CycleFault.{CycleFault}
use Rattle.graph_core.specs.declared.fault.CycleFault.TheVariants.{Cycle, OutOfMemory}
use Rattle.net_core.specs.GateValue.{GateValue}
use Rattle.net_core.specs.NetList.{NetList, nets}
use Rattle.net_core.specs.Inside.{IsInside}
use Rattle.net_core.specs.Sound.{IsSound, HasOneDriverEach, Needs, IsCycle, HasCycle, sources}
use Rattle.net_core.specs.Level.{Levels, level_at, level_over, AreLevels}
use Rattle.net_core.specs.Levelled.{AllHaveLevels}
use Rattle.net_core.specs.Loop.{HasLevel, of_source, of_gate, IsFirstWithout, IsBegin, LeadsTo, IsLoop}
use Rattle.net_core.specs.Driving.{IsGraphOf, IsLoopFault, roots_of}
use Rattle.net_core.proofs.NetPath.{IsPath}
use Rattle.graph_core.proofs.GraphLemmas.{edges_within}
use Rattle.graph_core.proofs.LoopLemmas.{loop_cycle, loop_weaker, loop_only, cycle_weaker}
use Rattle.net_core.proofs.DriverLemmas.{DriveNets, driver_of, drivers_apart, drives_inside, gate_inside}
use Rattle.net_core.proofs.LevelLemmas.{level_from_above}

-- a net that a path of gates cannot follow for ever has a level
pub grounded_level : (net : NetList) (graph : Graph) → HasOneDriverEach net → IsInside net → IsGraphOf net graph → (a : ℕ) → a < nets net → IsGrounded graph a → HasLevel net a
grounded_level net graph one inside is _ less (grounded a f) =
    elim (driver_of net a one less) [
      | inl source ↦ of_source a source
      | inr found ↦
          let P : ℕ → Type 0 = HasLevel net in
          subst P found.2 (of_gate found.0 found.1 (λ n input. grounded_level net graph one inside is n (input_inside net found.0 n inside found.1 input) (f n (rw (← found.2, is.gates found.0 found.1) input))))
    ]
  where
    input_inside : (net : NetList) (g : GateValue) (n : ℕ) → IsInside net → Has net.gates g → Has g.inputs n → n < nets net
    input_inside net g n inside has input = All_has (λ n. n < nets net) g.inputs n (gate_inside net g inside has).1 input

pub level_grounded : (net : NetList) (graph : Graph) → IsGraphOf net graph → (a : ℕ) → HasLevel net a → IsGrounded graph a
level_grounded net graph is _ (of_source n source) = grounded n (λ b edge. absurd (none n b source edge))
  where
    none : (n b : ℕ) → Has (sources net) n → HasEdge graph n b → ⊥
    none n b source edge =
        let P : List ℕ → Type 0 = λ ns. Has ns b in
        let nothing : P [] = subst P (is.sources n source) edge in
        let got = nothing.1 in absurd (cc)
level_grounded net graph is _ (of_gate g has f) =
    grounded g.out (λ b edge. let P : List ℕ → Type 0 = λ ns. Has ns b in level_grounded net graph is b (f b (subst P (is.gates g has) edge)))

first_without : (net : NetList) (graph : Graph) (list : List ℕ) (b : ℕ) → HasOneDriverEach net → IsInside net → IsGraphOf net graph → ((n : ℕ) → Has list n → n < nets net) → IsFirstEndless graph list b → IsFirstWithout net list b
first_without net graph list b one inside is within (i, at, endless, before) =
    (i, at, (λ has. endless (level_grounded net graph is b has)), λ j n less got. grounded_level net graph one inside is n (within n (j, got)) (before j n less got))

-- a net that leads on is driven by a remaining gate
leads_on : (net : NetList) (graph : Graph) → HasOneDriverEach net → IsInside net → IsGraphOf net graph → (a b : ℕ) → IsFirstEndless graph (edges graph a) b → LeadsTo net a b
leads_on net graph one inside is a b first =
    let less : a < nets net = omega (arith, edges_within graph a first.0 b first.1, is.long) in
    elim (driver_of net a one less) [
      | inl source ↦
          let P : List ℕ → Type 0 = λ ns. slice_get ns first.0 ≡ Some b in
          let nothing : P [] = subst P (is.sources a source) first.1 in absurd (cc)
      | inr found ↦
          let same : edges graph a ≡ found.0.inputs = ap (edges graph) (sym found.2) ∙ is.gates found.0 found.1 in
          let P : List ℕ → Type 0 = λ ns. IsFirstEndless graph ns b in
          let first' : P found.0.inputs = subst P same first in
          (found.0, found.1, found.2, first_without net graph found.0.inputs b one inside is (λ n has. All_has (λ n. n < nets net) found.0.inputs n (gate_inside net found.0 inside found.1).1 has) first')
    ]

got_either : (xs ys : List ℕ) (k z : ℕ) → slice_get (xs ++ ys) k ≡ Some z → (slice_get xs k ≡ Some z) ⊎ Has ys z
got_either [] ys k z got = inr (k, got)
got_either (x ∷ xs) ys zero z got = inl got
got_either (x ∷ xs) ys (suc k) z got = got_either xs ys k z got

-- the walk begins at the remaining gate of least position
begins_at : (net : NetList) (graph : Graph) → HasOneDriverEach net → IsInside net → IsGraphOf net graph → (a : ℕ) → IsFirstEndless graph (roots_of net) a → IsBegin net a
begins_at net graph one inside is a (i, at, endless, before) =
    let outs : List ℕ = map (λ (g : GateValue). g.out) net.gates in
    elim (got_either outs (sources net) i a at) [
      | inr source ↦ absurd (endless (level_grounded net graph is a (of_source a source)))
      | inl here ↦
          let g = from_map (λ (g : GateValue). g.out) net.gates i a here in (
            i,
            g.0,
            g.1,
            g.2,
            (λ has. endless (level_grounded net graph is a has)),
            λ q h less got.
                let at' : slice_get outs q ≡ Some h.out = slice_get-map (λ (g : GateValue). g.out) net.gates q ∙ rw got refl in
                grounded_level net graph one inside is h.out (gate_inside net h inside (q, got)).0 (before q h.out less (get_front outs (sources net) q h.out at')),
          )
    ]

-- the cycle of the graph is the loop of the net list
pub loop_of_cycle : (net : NetList) (graph : Graph) (cycle : List ℕ) → HasOneDriverEach net → IsInside net → IsGraphOf net graph → IsCycleOf graph (roots_of net) cycle → IsLoop net cycle
loop_of_cycle net graph cycle one inside is found =
    loop_weaker (IsFirstEndless graph (roots_of net)) (IsBegin net) (λ a b. IsFirstEndless graph (edges graph a) b) (LeadsTo net) cycle (begins_at net graph one inside is) (leads_on net graph one inside is) found

leads_needs : (net : NetList) (a b : ℕ) → LeadsTo net a b → Needs net a b
leads_needs net a b (g, has, out, first) = (g, has, out, (first.0, first.1))

pub loop_is_cycle : (net : NetList) (loop : List ℕ) → IsLoop net loop → IsCycle net loop
loop_is_cycle net loop is = cycle_weaker (LeadsTo net) (Needs net) (leads_needs net) loop (loop_cycle (IsBegin net) (LeadsTo net) loop is)

-- a loop has a first net, which exists
pub first_of_loop : (net : NetList) (loop : List ℕ) → IsInside net → IsLoop net loop → (n : ℕ) × (slice_get loop 0 ≡ Some n) × (n < nets net)
first_of_loop net loop inside is = by loop (loop_is_cycle net loop is)
  where
    needs_inside : (net : NetList) (a b : ℕ) → IsInside net → Needs net a b → a < nets net
    needs_inside net a b inside needs = rw (← needs.2) ((gate_inside net needs.0 inside needs.1).0)

    first_of_path : (a : ℕ) (rest : List ℕ) (b : ℕ) → IsPath net a rest b → a < nets net
    first_of_path a [] b path = needs_inside net a b inside path
    first_of_path a (c ∷ cs) b path = needs_inside net a c inside path.0

    by : (cycle : List ℕ) → IsCycle net cycle → (n : ℕ) × (slice_get cycle 0 ≡ Some n) × (n < nets net)
    by [] cycle = absurd cycle
    by (a ∷ rest) cycle = (a, refl, first_of_path a rest a cycle)

first_without_only : (net : NetList) (list : List ℕ) (b c : ℕ) → IsFirstWithout net list b → IsFirstWithout net list c → b ≡ c
first_without_only net list b c (i, at, none, before) (j, at', none', before') =
    elim (nat_eq_or i j) [
      | inl same ↦ let at'' : slice_get list j ≡ Some b = rw (← same) at in cc
      | inr other ↦ absurd (other (even i j (λ less. none (before' i b less at)) (λ less. none' (before j c less at'))))
    ]

begin_only : (net : NetList) (a b : ℕ) → IsBegin net a → IsBegin net b → a ≡ b
begin_only net a b (p, g, at, out, none, before) (q, h, at', out', none', before') =
    elim (nat_eq_or p q) [
      | inl same ↦ let at'' : slice_get net.gates q ≡ Some g = rw (← same) at in let whole : g ≡ h = cc in sym out ∙ ap (λ (x : GateValue). x.out) whole ∙ out'
      | inr other ↦ absurd (other (even p q
          (λ less. none (subst (λ (n : ℕ). HasLevel net n) out (before' p g less at)))
          (λ less. none' (subst (λ (n : ℕ). HasLevel net n) out' (before q h less at')))))
    ]

leads_only : (net : NetList) → DriveNets net → HasOneDriverEach net → (a b c : ℕ) → LeadsTo net a b → LeadsTo net a c → b ≡ c
leads_only net drive one a b c (g, has, out, first) (h, has', out', first') =
    let place : has.0 ≡ has'.0 = drivers_apart net has.0 has'.0 g h drive one has.1 has'.1 (out ∙ sym out') in
    let at : slice_get net.gates has'.0 ≡ Some g = ap (slice_get net.gates) (sym place) ∙ has.1 in
    let at' : slice_get net.gates has'.0 ≡ Some h = has'.1 in
    let whole : g ≡ h = cc in
    let P : GateValue → Type 0 = λ x. IsFirstWithout net x.inputs b in
    first_without_only net h.inputs b c (subst P whole first) first'

-- a net list whose gates drive nets has one loop at most
pub loops_same : (net : NetList) (x y : List ℕ) → DriveNets net → HasOneDriverEach net → IsLoop net x → IsLoop net y → x ≡ y
loops_same net x y drive one first second = loop_only (IsBegin net) (LeadsTo net) (begin_only net) (leads_only net drive one) x y first second

pub loop_is_only : (net : NetList) (x y : List ℕ) → IsInside net → HasOneDriverEach net → IsLoop net x → IsLoop net y → x ≡ y
loop_is_only net x y inside one first second = loops_same net x y (drives_inside net inside) one first second

rank : Option ℕ → ℕ
rank None = 0
rank (Some l) = l

-- where each gate has a level, a gate's level is above its inputs'
falls : (net : NetList) (levels : Levels) → AreLevels net levels → ((g : GateValue) → Has net.gates g → level_at levels g.out ≡ None → ⊥) → (a b : ℕ) → Needs net a b → rank (level_at levels b) < rank (level_at levels a)
unfolding rank
falls net levels are each a b needs =
    let g : GateValue = needs.0 in
    let over : level_at levels g.out ≡ level_over levels g.inputs = are.gates g needs.1 in
    elim (level_at levels g.out) as (λ o. level_at levels g.out ≡ o → rank (level_at levels b) < rank (level_at levels a)) [
      | None ↦ λ e. absurd (each g needs.1 e)
      | Some v ↦ λ e.
          let above = (level_from_above levels v 1 g.inputs (sym over ∙ e)).1 needs.3.0 b needs.3.1 in
          let at_a : level_at levels a ≡ Some v = rw needs.2 at e in
          rw (above.1, at_a) above.2
    ] refl

path_falls : (net : NetList) (levels : Levels) → ((a b : ℕ) → Needs net a b → rank (level_at levels b) < rank (level_at levels a)) → (a : ℕ) (rest : List ℕ) (b : ℕ) → IsPath net a rest b → rank (level_at levels b) < rank (level_at levels a)
path_falls net levels down a [] b path = down a b path
path_falls net levels down a (c ∷ cs) b path = omega (arith, down a c path.0, path_falls net levels down c cs b path.1)

no_cycle_of : (net : NetList) (levels : Levels) → AreLevels net levels → ((g : GateValue) → Has net.gates g → level_at levels g.out ≡ None → ⊥) → (cycle : List ℕ) → IsCycle net cycle → ⊥
no_cycle_of net levels are each [] cycle = cycle
no_cycle_of net levels are each (a ∷ rest) cycle = omega (arith, path_falls net levels (falls net levels are each) a rest a cycle)

-- where each gate has a level, there is no cycle
pub no_cycle : (net : NetList) (levels : Levels) → AreLevels net levels → ((g : GateValue) → Has net.gates g → level_at levels g.out ≡ None → ⊥) → HasCycle net → ⊥
no_cycle net levels are each cycle = no_cycle_of net levels are each cycle.0 cycle.1

pub loop_fault_of : (net : NetList) (graph : Graph) (fault : CycleFault) → HasOneDriverEach net → IsInside net → IsGraphOf net graph → IsCycleFault graph (roots_of net) fault → IsLoopFault net fault
loop_fault_of net graph (Cycle points) one inside is cycle = loop_of_cycle net graph points.items one inside is cycle
loop_fault_of net graph OutOfMemory one inside is cycle = tt

pub sound_by_levels : (net : NetList) (levels : Levels) → IsInside net → HasOneDriverEach net → AllHaveLevels net levels → IsSound net
sound_by_levels net levels inside one all = record { inside = inside; one = one; no_cycle = no_cycle net levels all.0 all.1 }
