-- Steps of levels.
use Rattle.std.proofs.Common.{◌≡◌, ◌≢◌, ◌∙◌, ap, sym, refl, inl, inr, subst, ℕ, zero, suc, ◌<◌, ◌≤◌, ◌+◌, max, List, [], ◌∷◌, length, replicate, get_or, Option, None, Some, arith, length-set}
use Rattle.std.specs.Prelude.{slice_get, unwrap_or, option_and_then, All, map}
use Rattle.std.proofs.lemmas.List.Sums.{sum_by-cons}
use Rattle.std.proofs.lemmas.List.Elements.{All-append, All-map, All-weaker}
use Rattle.std.proofs.Math.ListN.{set}
use Rattle.std.proofs.lemmas.List.{length-replicate}
use Rattle.std.proofs.lemmas.Option.{slice_get_within, get_or_from_slice_get}
use Rattle.lists.specs.Lists.{Has}
use Rattle.lists.specs.laws.HasLaws.{Has_left, Has_map}
use Rattle.lists.specs.laws.NumberLaws.{nat_eq_or}
use Rattle.lists.specs.laws.ReadLaws.{get_set_same, get_set_other, get_below}
use Rattle.lists.specs.laws.SumLaws.{sum_by-set_at}
use Rattle.graph_core.specs.Graph.{Graph, edges}
use Rattle.graph_core.specs.Arranged.{IsArranged}
use Rattle.net_core.specs.GateValue.{GateValue}
use Rattle.net_core.specs.NetList.{NetList, nets}
use Rattle.net_core.specs.Inside.{IsInside, GateIsInside, LatchIsInside}
use Rattle.net_core.specs.Sound.{sources, HasOneDriverEach}
use Rattle.net_core.specs.Level.{Levels, level_at, level_from, level_over, AreLevels}
use Rattle.net_core.specs.Levelled.{AllHaveLevels}
use Rattle.net_core.specs.Driving.{IsGraphOf, roots_of}
use Rattle.net_core.specs.Partial.{ArePartial, ArePositions, AreKnown, AreZeros, KeepsLevels, lack, lacking}
use Rattle.net_core.proofs.DriverLemmas.{driver_of, source_no_gate, gates_apart, gate_inside}

pub level_known : (levels : Levels) (n l : ℕ) → level_at levels n ≡ Some l → slice_get levels n ≡ Some (Some l)
level_known levels n l is =
    elim (slice_get levels n) as (λ o. unwrap_or o None ≡ Some l → o ≡ Some (Some l)) [ None ↦ λ e. absurd (cc) | Some x ↦ λ e. ap Some e ] is

pub known_at : (levels : Levels) (n : ℕ) (o : Option ℕ) → n < length levels → level_at levels n ≡ o → slice_get levels n ≡ Some o
known_at levels n o less is = let got = get_below levels n less in got.1 ∙ ap Some (sym (ap (λ (x : Option (Option ℕ)). unwrap_or x None) got.1) ∙ is)

pub level_within : (levels : Levels) (n l : ℕ) → level_at levels n ≡ Some l → n < length levels
level_within levels n l is = slice_get_within levels n (Some l) (level_known levels n l is)

pub level_set_same : (levels : Levels) (i : ℕ) (x : Option ℕ) → i < length levels → level_at (set levels i x) i ≡ x
level_set_same levels i x less = let at = get_below levels i less in rw (get_set_same levels i at.0 x at.1) refl

pub level_set_other : (levels : Levels) (i : ℕ) (x : Option ℕ) (n : ℕ) → n ≢ i → level_at (set levels i x) n ≡ level_at levels n
level_set_other [] i x n other = refl
level_set_other (y ∷ ys) zero x zero other = absurd (other refl)
level_set_other (y ∷ ys) zero x (suc n) other = refl
level_set_other (y ∷ ys) (suc i) x zero other = refl
level_set_other (y ∷ ys) (suc i) x (suc n) other = level_set_other ys i x n (λ e. other (omega arith))

-- a level over nets that have levels does not change where another net gets one
pub level_from_set : (levels : Levels) (i v : ℕ) (x : Option ℕ) (m : ℕ) (ns : List ℕ) → level_at levels i ≡ None → level_from levels m ns ≡ Some v → level_from (set levels i x) m ns ≡ Some v
level_from_set levels i v x m [] none is = is
level_from_set levels i v x m (n ∷ ns) none is =
    elim (level_at levels n) as (λ o. level_at levels n ≡ o → option_and_then (λ l. level_from levels (max m (l + 1)) ns) o ≡ Some v → option_and_then (λ l. level_from (set levels i x) (max m (l + 1)) ns) (level_at (set levels i x) n) ≡ Some v) [
      | None ↦ λ e h. absurd (cc)
      | Some l ↦ λ e h.
          let other : n ≢ i = λ same. let e' : level_at levels i ≡ Some l = rw (← same) e in cc in
          rw (level_set_other levels i x n other, e) (level_from_set levels i v x (max m (l + 1)) ns none h)
    ] refl is

pub level_from_bound : (levels : Levels) (d v m : ℕ) (ns : List ℕ) → ((n l : ℕ) → level_at levels n ≡ Some l → l ≤ d) → m ≤ d + 1 → level_from levels m ns ≡ Some v → v ≤ d + 1
level_from_bound levels d v m [] small low is = let same : m ≡ v = cc in omega arith
level_from_bound levels d v m (n ∷ ns) small low is =
    elim (level_at levels n) as (λ o. level_at levels n ≡ o → option_and_then (λ l. level_from levels (max m (l + 1)) ns) o ≡ Some v → v ≤ d + 1) [
      | None ↦ λ e h. absurd (cc)
      | Some l ↦ λ e h. level_from_bound levels d v (max m (l + 1)) ns small (omega (arith, small n l e)) h
    ] refl is

-- the level of a gate is above those of its inputs, and each has one
pub level_from_above : (levels : Levels) (v m : ℕ) (ns : List ℕ) → level_from levels m ns ≡ Some v → (m ≤ v) × ((k n : ℕ) → slice_get ns k ≡ Some n → (l : ℕ) × (level_at levels n ≡ Some l) × (l < v))
level_from_above levels v m [] is = let same : m ≡ v = cc in (omega arith, λ k n got. absurd (cc))
level_from_above levels v m (n ∷ ns) is =
    elim (level_at levels n) as (λ o. level_at levels n ≡ o → option_and_then (λ l. level_from levels (max m (l + 1)) ns) o ≡ Some v → (m ≤ v) × ((k n' : ℕ) → slice_get (n ∷ ns) k ≡ Some n' → (l : ℕ) × (level_at levels n' ≡ Some l) × (l < v))) [
      | None ↦ λ e h. absurd (cc)
      | Some l ↦ λ e h. let rest = level_from_above levels v (max m (l + 1)) ns h in
          (omega (arith, rest.0), first_or levels v n ns l e (omega (arith, rest.0)) rest.1)
    ] refl is
  where
    first_or : (levels : Levels) (v n : ℕ) (ns : List ℕ) (l : ℕ) → level_at levels n ≡ Some l → l < v → ((k n : ℕ) → slice_get ns k ≡ Some n → (l : ℕ) × (level_at levels n ≡ Some l) × (l < v)) → (k n' : ℕ) → slice_get (n ∷ ns) k ≡ Some n' → (l : ℕ) × (level_at levels n' ≡ Some l) × (l < v)
    first_or levels v n ns l is less rest zero n' got = let same : n ≡ n' = cc in (l, rw (← same) is, less)
    first_or levels v n ns l is less rest (suc k) n' got = rest k n' got

-- a net that has no level gets one
pub partial_set : (net : NetList) (levels : Levels) (done p v : ℕ) (g : GateValue) → IsInside net → HasOneDriverEach net → ArePartial net levels done → slice_get net.gates p ≡ Some g → level_at levels g.out ≡ None → level_over levels g.inputs ≡ Some v → ArePartial net (set levels g.out (Some v)) (done + 1)
partial_set net levels done p v g inside one partial gate none over =
    let within : g.out < length levels = omega (arith, (gate_inside net g inside (p, gate)).0, partial.long) in
    let low : v ≤ done + 1 = level_from_bound levels done v 1 g.inputs partial.small (omega arith) over in
    let at : slice_get levels g.out ≡ Some None = known_at levels g.out None within none in
    record {
      long = length-set levels g.out (Some v) ∙ partial.long;
      sources = λ n has. level_set_other levels g.out (Some v) n (λ same. source_no_gate net n g inside one has (p, gate) (sym same)) ∙ partial.sources n has;
      gates = λ q h l got is. elim (nat_eq_or h.out g.out) [
        | inl same ↦ let place : q ≡ p = gates_apart net q p h g inside one got gate same in
            let got' : slice_get net.gates p ≡ Some h = rw (← place) got in
            let whole : g ≡ h = cc in
            let is' : level_at (set levels g.out (Some v)) g.out ≡ Some l = rw same at is in
            let value : Some v ≡ Some l = sym (level_set_same levels g.out (Some v) within) ∙ is' in
            let over' : level_over levels h.inputs ≡ Some l = rw (← whole) (over ∙ value) in
            level_from_set levels g.out l (Some v) 1 h.inputs none over'
        | inr other ↦ level_from_set levels g.out l (Some v) 1 h.inputs none (partial.gates q h l got (sym (level_set_other levels g.out (Some v) h.out other) ∙ is))
      ];
      small = λ n l is. elim (nat_eq_or n g.out) [
        | inl same ↦ let is' : level_at (set levels g.out (Some v)) g.out ≡ Some l = rw same at is in
            let value : Some v ≡ Some l = sym (level_set_same levels g.out (Some v) within) ∙ is' in
            let value' : v ≡ l = cc in omega arith
        | inr other ↦ omega (arith, partial.small n l (sym (level_set_other levels g.out (Some v) n other) ∙ is))
      ];
      few = omega (arith, partial.few, sum_by-set_at lack levels g.out None (Some v) at, length-set levels g.out (Some v));
    }

pub lacking_set : (levels : Levels) (i v : ℕ) → slice_get levels i ≡ Some None → lacking (set levels i (Some v)) + 1 ≡ lacking levels
lacking_set levels i v at = omega (arith, sum_by-set_at lack levels i None (Some v) at)

-- where each gate has its level, or none because an input has none, all levels are found
pub all_found : (net : NetList) (levels : Levels) (done : ℕ) → ArePartial net levels done → ((p : ℕ) (g : GateValue) → slice_get net.gates p ≡ Some g → level_at levels g.out ≡ level_over levels g.inputs) → AreLevels net levels
all_found net levels done partial each = record { long = partial.long; sources = partial.sources; gates = λ g has. each has.0 g has.1 }

-- a gate that has a level has the right one
pub right_level : (net : NetList) (levels : Levels) (done p : ℕ) (g : GateValue) → ArePartial net levels done → slice_get net.gates p ≡ Some g → (level_at levels g.out ≡ None → ⊥) → level_at levels g.out ≡ level_over levels g.inputs
right_level net levels done p g partial got some =
    elim (level_at levels g.out) as (λ o. level_at levels g.out ≡ o → o ≡ level_over levels g.inputs) [
      | None ↦ λ e. absurd (some e)
      | Some l ↦ λ e. sym (partial.gates p g l got e)
    ] refl

no_level : (n k : ℕ) → level_at (replicate n None) k ≡ None
no_level zero k = refl
no_level (suc n) zero = refl
no_level (suc n) (suc k) = no_level n k

-- no source has its level
pub no_zeros : (bound : ℕ) (sources : List ℕ) (levels : Levels) → levels ≡ replicate bound None → AreZeros bound sources 0 levels
no_zeros bound sources levels is =
    record {
      long = ap length is ∙ length-replicate {A = Option ℕ} bound None;
      each = λ j n less got. absurd (omega arith);
      only = λ n l some. let none : level_at levels n ≡ None = ap (λ ls. level_at ls n) is ∙ no_level bound n in absurd (cc);
    }

-- one more source gets it
pub one_zero_more : (bound : ℕ) (sources : List ℕ) (k n : ℕ) (levels : Levels) → n < bound → slice_get sources k ≡ Some n → AreZeros bound sources k levels → AreZeros bound sources (k + 1) (set levels n (Some 0))
one_zero_more bound sources k n levels less here zeros =
    let within : n < length levels = omega (arith, zeros.long) in
    record {
      long = length-set levels n (Some 0) ∙ zeros.long;
      each = λ j m below got. elim (nat_eq_or m n) [
        | inl same ↦ ap (level_at (set levels n (Some 0))) same ∙ level_set_same levels n (Some 0) within
        | inr other ↦
            let place : j ≢ k = λ e. let got' : slice_get sources k ≡ Some m = ap (slice_get sources) (sym e) ∙ got in let same : n ≡ m = cc in other (sym same) in
            level_set_other levels n (Some 0) m other ∙ zeros.each j m (omega arith) got
      ];
      only = λ m l some. elim (nat_eq_or m n) [
        | inl same ↦
            let at : level_at (set levels n (Some 0)) n ≡ Some l = ap (level_at (set levels n (Some 0))) (sym same) ∙ some in
            let value : Some 0 ≡ Some l = sym (level_set_same levels n (Some 0) within) ∙ at in
            let level : 0 ≡ l = cc in
            (sym level, (k, here ∙ ap Some (sym same)))
        | inr other ↦ zeros.only m l (sym (level_set_other levels n (Some 0) m other) ∙ some)
      ];
    }

-- all sources have it
pub zeros_all : (bound : ℕ) (sources : List ℕ) (k : ℕ) (levels : Levels) → length sources ≤ k → AreZeros bound sources k levels → AreZeros bound sources (length sources) levels
zeros_all bound sources k levels past zeros = record { long = zeros.long; each = λ j n less got. zeros.each j n (omega arith) got; only = zeros.only }

-- levels of the sources alone
pub first_partial : (net : NetList) (levels : Levels) (ss : List ℕ) (bound : ℕ) → IsInside net → HasOneDriverEach net → bound ≡ nets net → ss ≡ sources net → AreZeros bound ss (length ss) levels → ArePartial net levels 0
first_partial net levels ss bound inside one count same zeros =
    let P : List ℕ → Type 0 = λ list. AreZeros bound list (length list) levels in
    let zeros' : P (sources net) = subst P same zeros in
    record {
      long = zeros'.long ∙ count;
      sources = λ n has. zeros'.each has.0 n (slice_get_within (sources net) has.0 n has.1) has.1;
      gates = λ p g l got is. absurd (source_no_gate net g.out g inside one (zeros'.only g.out l is).1 (p, got) refl);
      small = λ n l is. omega (arith, (zeros'.only n l is).0);
      few = lacking_few levels;
    }
  where
    lacking_few : (levels : Levels) → 0 + lacking levels ≤ length levels
    lacking_few [] = omega arith
    lacking_few (None ∷ ls) = omega (arith, lacking_few ls, sum_by-cons lack None ls)
    lacking_few (Some l ∷ ls) = omega (arith, lacking_few ls, sum_by-cons lack (Some l) ls)

pub sources_inside : (net : NetList) → IsInside net → All (λ n. n < nets net) (sources net)
sources_inside net inside = All-append (λ n. n < nets net) net.inputs (map (λ l. l.out) net.latches) inside.inputs (All-map (λ n. n < nets net) (λ l. l.out) net.latches (All-weaker (LatchIsInside (nets net)) (λ l. l.out < nets net) (λ l h. h.1) net.latches inside.latches))

-- the roots are nets
pub roots_inside : (net : NetList) → IsInside net → All (λ n. n < nets net) (roots_of net)
roots_inside net inside =
    let outs : All (λ n. n < nets net) (map (λ (g : GateValue). g.out) net.gates) = All-map (λ n. n < nets net) (λ (g : GateValue). g.out) net.gates (All-weaker (GateIsInside (nets net)) (λ g. g.out < nets net) (λ g h. h.0) net.gates inside.gates) in
    All-append (λ n. n < nets net) (map (λ (g : GateValue). g.out) net.gates) (sources net) outs (sources_inside net inside)

pub raised_set : (net : NetList) (levels : Levels) (p v : ℕ) (g : GateValue) (out : ℕ) → slice_get net.gates p ≡ Some g → level_over levels g.inputs ≡ Some v → out ≡ g.out → (h : GateValue) (l : ℕ) → slice_get net.gates p ≡ Some h → level_over levels h.inputs ≡ Some l → set levels out (Some v) ≡ set levels h.out (Some l)
raised_set net levels p v g out gate over is h l gate' over' =
    let whole : g ≡ h = cc in
    let over'' : level_over levels h.inputs ≡ Some v = ap (λ (x : GateValue). level_over levels x.inputs) (sym whole) ∙ over in
    let value : v ≡ l = cc in
    let place : out ≡ h.out = is ∙ ap (λ (x : GateValue). x.out) whole in
    rw (place, value) refl

pub positions_step : (net : NetList) (positions : List ℕ) (p out : ℕ) (g : GateValue) → IsInside net → HasOneDriverEach net → slice_get net.gates p ≡ Some g → out ≡ g.out → length positions ≡ nets net → ((q : ℕ) → q < p → (h : GateValue) → slice_get net.gates q ≡ Some h → slice_get positions h.out ≡ Some q) → (q : ℕ) → q < p + 1 → (h : GateValue) → slice_get net.gates q ≡ Some h → slice_get (set positions out p) h.out ≡ Some q
positions_step net positions p out g inside one here is long each q less h got =
    elim (nat_eq_or q p) [
      | inl same ↦ let got' : slice_get net.gates p ≡ Some h = rw same at got in
          let whole : g ≡ h = cc in
          let within : out < length positions = rw is (omega (arith, (gate_inside net g inside (p, here)).0)) in
          let was = get_below positions out within in
          let outs : h.out ≡ out = rw (← whole) (sym is) in
          rw (outs, same) (get_set_same positions out was.0 p was.1)
      | inr other ↦ get_set_other positions out p h.out q (λ e. other (gates_apart net q p h g inside one got here (e ∙ is))) (each q (omega arith) h got)
    ]

-- the position of the gate that drives a net which is no source
pub position_of : (net : NetList) (levels : Levels) (positions : List ℕ) (done a : ℕ) → HasOneDriverEach net → ArePartial net levels done → ArePositions net positions → a < nets net → level_at levels a ≡ None → (p : ℕ) × (g : GateValue) × (slice_get net.gates p ≡ Some g) × (g.out ≡ a) × (slice_get positions a ≡ Some p)
position_of net levels positions done a one partial at less none =
    elim (driver_of net a one less) [
      | inl source ↦ let zero' = partial.sources a source in absurd (cc)
      | inr found ↦ let here = at found.1.0 found.0 found.1.1 in (found.1.0, found.0, found.1.1, found.2, ap (slice_get positions) (sym found.2) ∙ here)
    ]

-- the position that is kept for such a net
pub position_is : (net : NetList) (levels : Levels) (positions : List ℕ) (done a : ℕ) → HasOneDriverEach net → ArePartial net levels done → ArePositions net positions → a < nets net → level_at levels a ≡ None → (a < length positions) × ((g : GateValue) × (slice_get net.gates (get_or positions a 0) ≡ Some g) × (g.out ≡ a))
position_is net levels positions done a one partial at less none =
    let found = position_of net levels positions done a one partial at less none in
    let place : get_or positions a 0 ≡ found.0 = get_or_from_slice_get positions a found.0 0 found.4 in
    (slice_get_within positions a found.0 found.4, (found.1, ap (slice_get net.gates) place ∙ found.2, found.3))

pub known_over : (levels : Levels) (m : ℕ) (ns : List ℕ) → AreKnown levels ns → (v : ℕ) × (level_from levels m ns ≡ Some v)
known_over levels m [] known = (m, refl)
known_over levels m (n ∷ ns) known =
    elim (level_at levels n) as (λ o. level_at levels n ≡ o → (v : ℕ) × (option_and_then (λ l. level_from levels (max m (l + 1)) ns) o ≡ Some v)) [
      | None ↦ λ e. absurd (known 0 n refl e)
      | Some l ↦ λ e. known_over levels (max m (l + 1)) ns (λ k x got. known (suc k) x got)
    ] refl

pub keeps_set : (levels : Levels) (i v : ℕ) → level_at levels i ≡ None → KeepsLevels levels (set levels i (Some v))
keeps_set levels i v none n l is = elim (nat_eq_or n i) [
  | inl same ↦ let is' : level_at levels i ≡ Some l = ap (level_at levels) (sym same) ∙ is in absurd (cc)
  | inr other ↦ level_set_other levels i (Some v) n other ∙ is
]

pub known_kept : (old new : Levels) (n : ℕ) → KeepsLevels old new → (level_at old n ≡ None → ⊥) → level_at new n ≡ None → ⊥
known_kept old new n keeps known none =
    elim (level_at old n) as (λ o. level_at old n ≡ o → ⊥) [
      | None ↦ λ e. known e
      | Some l ↦ λ e. let there = keeps n l e in cc
    ] refl

-- the gate's level was set
pub raised_known : (levels new : Levels) (g : GateValue) (a : ℕ) → g.out ≡ a → a < length levels → level_at levels a ≡ None → AreKnown levels g.inputs → ((l : ℕ) → level_over levels g.inputs ≡ Some l → new ≡ set levels g.out (Some l)) → KeepsLevels levels new × (level_at new a ≡ None → ⊥)
raised_known levels new g a out less none known raised =
    let over = known_over levels 1 g.inputs known in
    let is : new ≡ set levels a (Some over.0) = raised over.0 over.1 ∙ ap (λ n. set levels n (Some over.0)) out in
    let P : Levels → Type 0 = λ ls. KeepsLevels levels ls × (level_at ls a ≡ None → ⊥) in
    subst P (sym is) (keeps_set levels a over.0 none, λ e. let there = level_set_same levels a (Some over.0) less in cc)

-- the inputs of a gate stand before its net in an order
pub inputs_known : (net : NetList) (graph : Graph) (levels : Levels) (roots order : List ℕ) (i point : ℕ) → IsGraphOf net graph → IsArranged graph roots order → slice_get order i ≡ Some point → ((j n : ℕ) → j < i → slice_get order j ≡ Some n → level_at levels n ≡ None → ⊥) → (g : GateValue) → Has net.gates g → g.out ≡ point → AreKnown levels g.inputs
inputs_known net graph levels roots order i point is arranged at known g has out k n got =
    let same : edges graph point ≡ g.inputs = ap (edges graph) (sym out) ∙ is.gates g has in
    let low = arranged.after i point n at (k, ap (λ ns. slice_get ns k) same ∙ got) in
    known low.0 n low.1 low.2

-- where all nets of an order have levels, each gate has
pub all_levels_found : (net : NetList) (graph : Graph) (levels : Levels) (order : List ℕ) (done i : ℕ) → IsArranged graph (roots_of net) order → ArePartial net levels done → ((j n : ℕ) → j < i → slice_get order j ≡ Some n → level_at levels n ≡ None → ⊥) → length order ≤ i → AllHaveLevels net levels
all_levels_found net graph levels order done i arranged partial known past =
    (all_found net levels done partial (λ p g got. right_level net levels done p g partial got (each g (p, got))), each)
  where
    each : (g : GateValue) → Has net.gates g → level_at levels g.out ≡ None → ⊥
    each g has =
        let root : Has (roots_of net) g.out = Has_left (map (λ (h : GateValue). h.out) net.gates) (sources net) g.out (Has_map (λ (h : GateValue). h.out) net.gates g has) in
        let at = arranged.has_roots g.out root in
        known at.0 g.out (omega (arith, slice_get_within order at.0 g.out at.1, past)) at.1

pub known_step : (old new : Levels) (order : List ℕ) (i point : ℕ) → slice_get order i ≡ Some point → KeepsLevels old new → (level_at new point ≡ None → ⊥) → ((j n : ℕ) → j < i → slice_get order j ≡ Some n → level_at old n ≡ None → ⊥) → (j n : ℕ) → j < i + 1 → slice_get order j ≡ Some n → level_at new n ≡ None → ⊥
known_step old new order i point at keeps here known j n less got =
    elim (nat_eq_or j i) [
      | inl same ↦ let got' : slice_get order i ≡ Some n = ap (slice_get order) (sym same) ∙ got in let e : point ≡ n = cc in subst (λ (m : ℕ). level_at new m ≡ None → ⊥) e here
      | inr other ↦ known_kept old new n keeps (known j n (omega arith) got)
    ]
