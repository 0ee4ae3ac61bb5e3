-- The net list of all cycles is sound.
use Rattle.std.proofs.Common.{◌≡◌, ◌∙◌, ap, sym, refl, subst, inl, inr, ℕ, zero, suc, ◌<◌, ◌≤◌, ◌+◌, ◌-◌, ◌*◌, ◌/◌, ◌%◌, ◌^◌, Bool, true, false, not, List, [], ◌∷◌, ◌++◌, length, map, arith, All, append-nil}
use Rattle.std.specs.Prelude.{◌==◌, ◌&&◌, if◌then◌else◌}
use Rattle.std.specs.List.{filter, range_with_len}
use Rattle.std.proofs.lemmas.Bool.{cases_lt}
use Rattle.lists.specs.Lists.{Has, times}
use Rattle.lists.specs.laws.HasLaws.{all_from, All_has, Has_cases, times_append, range_has}
use Rattle.lists.specs.laws.ListLaws.{length_map as map-long}
use Rattle.lists.specs.laws.ReadLaws.{from_map}
use Rattle.graph_core.proofs.SharedLemmas.{no_cycle_by}
use Rattle.net_core.specs.GateValue.{GateValue}
use Rattle.net_core.specs.LatchValue.{LatchValue}
use Rattle.net_core.specs.Inside.{GateIsInside, IsInside, LatchIsInside}
use Rattle.net_core.specs.Level.{Levels}
use Rattle.net_core.specs.Levelled.{AllHaveLevels}
use Rattle.net_core.specs.NetList.{NetList, nets}
use Rattle.net_core.specs.Order.{rank_at}
use Rattle.net_core.specs.Sound.{drivers, HasCycle, IsSound, Needs}
use Rattle.net_core.specs.declared.latch.Start.{Start}
use Rattle.net_core.specs.declared.latch.Start.TheVariants as starts
use Rattle.net_core.proofs.DriverLemmas.{gate_inside}
use Rattle.net_core.proofs.EvalLemmas.{inputs_below}
use Rattle.net_core.proofs.ExistLemmas.{sound_levels}
use Rattle.net_words.specs.Binding.{Binding}
use Rattle.net_words.specs.BoundTo.{IsBoundTo}
use Rattle.net_words.specs.Feeds.{is_fed, IsSource}
use Rattle.net_words.specs.declared.bound.BoundWord.{BoundWord}
use Rattle.net_words.specs.declared.feed.Feed.{Feed}
use Rattle.net_words.specs.declared.feed.Source.{Source}
use Rattle.net_words.specs.declared.feed.Source.TheVariants.{Zero, One, Bit}
use Rattle.net_words.specs.declared.word.Role.{Role}
use Rattle.net_words.specs.declared.word.Role.TheVariants.{Fed}
use Rattle.unroll.specs.Gates.{bit_net, buffer, constant, gate_at, gates_to, is_held, source_gate, start_bit}
use Rattle.unroll.specs.Nets.{all_cycles, unrolled_inputs}
use Rattle.unroll.specs.Places.{net_at, cycle_nets, fed_count}
use Rattle.unroll.specs.Sources.{source_at}
use Rattle.unroll.specs.private.Plan.{net_count}
use Rattle.unroll.proofs.PlaceLemmas.{at_below, at_cycle, at_net, below, below_high, below_low, bit_high, bit_within, first_at, placed}
use Rattle.unroll.proofs.LaidLemmas.{IsLaid, has_filter, laid, of_feed, of_gate, of_input, of_latch, of_start}
use Rattle.unroll.proofs.CountLemmas.{all_unnamed, nets_long}
use Rattle.unroll.proofs.DrivenLemmas.{has_shift, one_driver_high, one_driver_low, outs}

-- ---- sources

-- what a net holds in a cycle is a constant or a bit of a fed word
pub source_is : (k : ℕ) (roles : List Role) (feeds : List Feed) (n t : ℕ) → ((feed : Feed) → Has feeds feed → IsSource k roles feed.source) → IsSource k roles (source_at feeds n t)
source_is k roles [] n t each = tt
source_is k roles (feed ∷ feeds) n t each =
    by (feed.net == n && feed.cycle == t) (source_is k roles feeds n t (λ f has. each f (suc has.0, has.1)))
  where
    by : (b : Bool) → IsSource k roles (source_at feeds n t) → IsSource k roles (if b then feed.source else source_at feeds n t)
    by true rest = each feed (0, refl)
    by false rest = rest

-- the bit of a fed word that a source names
pub source_bit : (net : NetList) (b : Binding) (c w place : ℕ) → IsSource b.k (map (λ word. word.role) b.words) (Bit w place) → (cycle_nets (nets net) c ≤ bit_net net b c w place) × (bit_net net b c w place < net_count net b c)
source_bit net b c w place is =
    let from = from_map (λ (word : BoundWord). word.role) b.words w Fed is.1 in
    let in_fed = bit_within b.k (cycle_nets (nets net) c) b.words w place from.0 from.1 from.2 is.0 in
    (omega (arith, in_fed.0), in_fed.1)

pub bound_source : (net : NetList) (b : Binding) (n t : ℕ) → IsBoundTo net b → IsSource b.k (map (λ word. word.role) b.words) (source_at b.feeds n t)
bound_source net b n t bound = source_is b.k (map (λ word. word.role) b.words) b.feeds n t (λ feed has. (bound.feeds feed has).source)

-- ---- all stands on nets that exist

pub start_small : (start : Start) → start_bit start < 2
start_small starts.Zero = omega arith
start_small starts.One = omega arith
start_small starts.Unknown = omega arith

constant_inside : (n out bit : ℕ) → out < n → bit < 2 → GateIsInside n (constant out bit)
constant_inside n out bit less small = (less, all_from (λ net. net < n) [] (λ x has. let got = has.1 in absurd (cc)), omega arith, small)

buffer_inside : (n out from : ℕ) → out < n → from < n → GateIsInside n (buffer out from)
buffer_inside n out from less low = (less, all_from (λ net. net < n) (from ∷ []) (λ x has. one x has), omega arith, omega arith)
  where
    one : (x : ℕ) → Has (from ∷ []) x → x < n
    one x (zero, got) = let same : from ≡ x = cc in omega (arith, same, low)
    one x (suc i, got) = absurd (cc)

source_inside : (net : NetList) (b : Binding) (c out : ℕ) (source : Source) → out < net_count net b c → IsSource b.k (map (λ word. word.role) b.words) source → GateIsInside (net_count net b c) (source_gate net b c out source)
source_inside net b c out Zero less is = constant_inside (net_count net b c) out 0 less (omega arith)
source_inside net b c out One less is = constant_inside (net_count net b c) out 1 less (omega arith)
source_inside net b c out (Bit w place) less is = buffer_inside (net_count net b c) out (bit_net net b c w place) less (source_bit net b c w place is).1

-- a net of a cycle is a net
pub at_count : (net : NetList) (b : Binding) (c t n : ℕ) → t ≤ c → n < nets net → net_at (nets net) t n < net_count net b c
at_count net b c t n within less = omega (arith, at_below (nets net) c t n within less)

pub low_count : (net : NetList) (b : Binding) (c n : ℕ) → n < nets net → n < net_count net b c
low_count net b c n less = omega (arith, at_count net b c 0 n (omega arith) less, first_at (nets net) n)

pub moved_inside : (net : NetList) (b : Binding) (c t : ℕ) (g : GateValue) → t ≤ c → GateIsInside (nets net) g → GateIsInside (net_count net b c) (gate_at (nets net) t g)
moved_inside net b c t g within is =
    let long : length (map (net_at (nets net) t) g.inputs) ≡ length g.inputs = map-long (net_at (nets net) t) g.inputs in
    let P : ℕ → Type 0 = λ k. g.table < 2 ^ (2 ^ k) in (
      at_count net b c t g.out within is.0,
      all_from (λ n. n < net_count net b c) (map (net_at (nets net) t) g.inputs) (λ x has. let from = has_shift (nets net) t g.inputs x has in omega (arith, from.2, at_count net b c t from.0 within (All_has (λ n. n < nets net) g.inputs from.0 is.1 from.1))),
      omega (arith, long, is.2),
      subst P (sym long) is.3,
    )

input_low : (net : NetList) → IsSound net → (n : ℕ) → Has net.inputs n → n < nets net
input_low net sound n has = All_has (λ m. m < nets net) net.inputs n sound.inside.inputs has

latch_low : (net : NetList) → IsSound net → (l : LatchValue) → Has net.latches l → LatchIsInside (nets net) l
latch_low net sound l has = All_has (LatchIsInside (nets net)) net.latches l sound.inside.latches has

laid_inside : (net : NetList) (b : Binding) (c : ℕ) (g : GateValue) → IsSound net → IsBoundTo net b → IsLaid net b c c g → GateIsInside (net_count net b c) g
laid_inside net b c g sound bound (of_feed s n within has fed) = source_inside net b c (net_at (nets net) s n) (source_at b.feeds n s) (at_count net b c s n within (input_low net sound n has)) (bound_source net b n s bound)
laid_inside net b c g sound bound (of_input s n less has unfed) = buffer_inside (net_count net b c) (net_at (nets net) (s + 1) n) n (at_count net b c (s + 1) n (omega (arith, less)) (input_low net sound n has)) (low_count net b c n (input_low net sound n has))
laid_inside net b c g sound bound (of_latch s l less has) =
    let is = latch_low net sound l has in
    buffer_inside (net_count net b c) (net_at (nets net) (s + 1) l.out) (net_at (nets net) s l.next) (at_count net b c (s + 1) l.out (omega (arith, less)) is.1) (at_count net b c s l.next (omega (arith, less)) is.0)
laid_inside net b c g sound bound (of_start l has free) = constant_inside (net_count net b c) l.out (start_bit l.start) (low_count net b c l.out (latch_low net sound l has).1) (start_small l.start)
laid_inside net b c g sound bound (of_gate s h within has) = moved_inside net b c s h within (gate_inside net h sound.inside has)

inputs_inside : (net : NetList) (b : Binding) (c m : ℕ) → IsSound net → Has (unrolled_inputs net b c) m → m < net_count net b c
inputs_inside net b c m sound has =
    let free : List ℕ = filter (λ n. not (is_fed b.feeds n)) net.inputs in
    let held : List LatchValue = filter (is_held b) net.latches in
    let bits : List ℕ = range_with_len (cycle_nets (nets net) c) (fed_count b.k b.words) in
    elim (Has_cases free (map (λ l. l.out) held ++ bits) m has) [
      | inl here ↦ low_count net b c m (input_low net sound m (has_filter (λ n. not (is_fed b.feeds n)) net.inputs m here).0)
      | inr rest ↦ elim (Has_cases (map (λ l. l.out) held) bits m rest) [
        | inl state ↦
            let from = from_map (λ (l : LatchValue). l.out) held state.0 m state.1 in
            let latch = has_filter (is_held b) net.latches from.0 (state.0, from.1) in
            low_count net b c m (omega (arith, from.2, (latch_low net sound from.0 latch.0).1))
        | inr bit ↦ (range_has (cycle_nets (nets net) c) (fed_count b.k b.words) m bit).1
      ]
    ]

pub cycles_inside : (net : NetList) (b : Binding) (c : ℕ) → IsSound net → IsBoundTo net b → net_count net b c ≤ 2 ^ 20 → length (gates_to net b c c) ≤ 2 ^ 20 → IsInside (all_cycles net b c)
cycles_inside net b c sound bound few small =
    let count : nets (all_cycles net b c) ≡ net_count net b c = nets_long net b c in
    let P : ℕ → Type 0 = λ k. All (λ n. n < k) (unrolled_inputs net b c) in
    let Q : ℕ → Type 0 = λ k. All (λ n. n < k) (map (net_at (nets net) c) net.outputs) in
    let R : ℕ → Type 0 = λ k. All (GateIsInside k) (gates_to net b c c) in
    record {
      few_nets = omega (arith, count, few);
      few_gates = omega (arith, small);
      inputs = subst P (sym count) (all_from (λ n. n < net_count net b c) (unrolled_inputs net b c) (λ m has. inputs_inside net b c m sound has));
      outputs = subst Q (sym count) (all_from (λ n. n < net_count net b c) (map (net_at (nets net) c) net.outputs) (λ m has. let from = has_shift (nets net) c net.outputs m has in omega (arith, from.2, at_count net b c c from.0 (omega arith) (All_has (λ n. n < nets net) net.outputs from.0 sound.inside.outputs from.1))));
      gates = subst R (sym count) (all_from (GateIsInside (net_count net b c)) (gates_to net b c c) (λ g has. laid_inside net b c g sound bound (laid net b c c g has)));
      latches = all_from (LatchIsInside (nets (all_cycles net b c))) [] (λ l has. let got = has.1 in absurd (cc));
      names = λ n l got named. let none : l.named ≡ false = all_unnamed net b c n l got in absurd (cc);
    }

-- ---- one driver each

pub one_driver : (net : NetList) (b : Binding) (c m : ℕ) → IsSound net → m < nets (all_cycles net b c) → drivers (all_cycles net b c) m ≡ 1
one_driver net b c m sound less =
    let ins : List ℕ = unrolled_inputs net b c in
    let gates : List ℕ = outs (gates_to net b c c) in
    let split : drivers (all_cycles net b c) m ≡ times m ins + times m gates = times_append m (ins ++ []) gates ∙ ap (λ xs. times m xs + times m gates) (append-nil ins) in
    elim (cases_lt m (cycle_nets (nets net) c)) [
      | inl low ↦
          let at = placed (nets net) c m low in
          let P : ℕ → Type 0 = λ n. times n ins + times n gates ≡ 1 in
          split ∙ subst P at.4 (one_driver_low net b c at.0 at.1 sound at.2 at.3)
      | inr high ↦ split ∙ one_driver_high net b c m sound high (omega (arith, less, nets_long net b c))
    ]

-- ---- no cycle of gates

-- the levels all together
abbrev pub total : Levels → ℕ
total [] = 0
total (l ∷ ls) = rank_at (l ∷ []) 0 + total ls

rank_total : (levels : Levels) (n : ℕ) → rank_at levels n ≤ total levels
rank_total [] n = omega arith
rank_total (l ∷ ls) zero = omega arith
rank_total (l ∷ ls) (suc n) = omega (arith, rank_total ls n)

-- nets by cycle and then by level, the bits of fed words first
abbrev rank : ℕ → ℕ → Levels → ℕ → ℕ
rank v c levels m = below (cycle_nets v c - m) (m / v * (total levels + 1) + rank_at levels (m % v) + 1) 0

rank_here : (v c : ℕ) (levels : Levels) (t n : ℕ) → t ≤ c → n < v → rank v c levels (net_at v t n) ≡ t * (total levels + 1) + rank_at levels n + 1
rank_here v c levels t n within less =
    below_low (net_at v t n) (cycle_nets v c) (net_at v t n / v * (total levels + 1) + rank_at levels (net_at v t n % v) + 1) 0 (at_below v c t n within less)
    ∙ (ap (λ x. x * (total levels + 1) + rank_at levels (net_at v t n % v) + 1) (at_cycle v t n less)
    ∙ ap (λ x. t * (total levels + 1) + rank_at levels x + 1) (at_net v t n less))

rank_bit : (v c : ℕ) (levels : Levels) (m : ℕ) → cycle_nets v c ≤ m → rank v c levels m ≡ 0
rank_bit v c levels m high = below_high m (cycle_nets v c) (m / v * (total levels + 1) + rank_at levels (m % v) + 1) 0 high

pub one_of : (x y : ℕ) → Has (y ∷ []) x → y ≡ x
one_of x y (zero, got) = cc
one_of x y (suc i, got) = absurd (cc)

source_falls : (net : NetList) (b : Binding) (c : ℕ) (levels : Levels) (s n x : ℕ) (source : Source) → s ≤ c → n < nets net → Has (source_gate net b c (net_at (nets net) s n) source).inputs x → rank (nets net) c levels x < rank (nets net) c levels (net_at (nets net) s n)
source_falls net b c levels s n x Zero within less has = let got = has.1 in absurd (cc)
source_falls net b c levels s n x One within less has = let got = has.1 in absurd (cc)
source_falls net b c levels s n x (Bit w place) within less has =
    let same : bit_net net b c w place ≡ x = one_of x (bit_net net b c w place) has in
    omega (arith, rank_here (nets net) c levels s n within less, rank_bit (nets net) c levels x (omega (arith, same, bit_high b.k (cycle_nets (nets net) c) b.words w)))

-- the rank falls from the output of a gate to its inputs
falls : (net : NetList) (b : Binding) (c : ℕ) (levels : Levels) (g : GateValue) (x : ℕ) → IsSound net → AllHaveLevels net levels → IsLaid net b c c g → Has g.inputs x → rank (nets net) c levels x < rank (nets net) c levels g.out
falls net b c levels g x sound all (of_feed s n within has fed) input =
    let low : n < nets net = input_low net sound n has in
    let P : ℕ → Type 0 = λ m. rank (nets net) c levels x < rank (nets net) c levels m in
    subst P (sym (source_out (source_at b.feeds n s))) (source_falls net b c levels s n x (source_at b.feeds n s) within low input)
  where
    source_out : (source : Source) → (source_gate net b c (net_at (nets net) s n) source).out ≡ net_at (nets net) s n
    source_out Zero = refl
    source_out One = refl
    source_out (Bit w place) = refl
falls net b c levels g x sound all (of_input s n less has unfed) input =
    let low : n < nets net = input_low net sound n has in
    let same : n ≡ x = one_of x n input in
    let here : rank (nets net) c levels x ≡ 0 * (total levels + 1) + rank_at levels n + 1 = ap (rank (nets net) c levels) (sym same ∙ sym (first_at (nets net) n)) ∙ rank_here (nets net) c levels 0 n (omega arith) low in
    omega (arith, here, rank_here (nets net) c levels (s + 1) n (omega (arith, less)) low)
falls net b c levels g x sound all (of_latch s l less has) input =
    let is = latch_low net sound l has in
    let same : net_at (nets net) s l.next ≡ x = one_of x (net_at (nets net) s l.next) input in
    omega (arith, ap (rank (nets net) c levels) same, rank_here (nets net) c levels s l.next (omega (arith, less)) is.0, rank_here (nets net) c levels (s + 1) l.out (omega (arith, less)) is.1, rank_total levels l.next)
falls net b c levels g x sound all (of_start l has free) input = let got = input.1 in absurd (cc)
falls net b c levels g x sound all (of_gate s h within has) input =
    let is = gate_inside net h sound.inside has in
    let from = has_shift (nets net) s h.inputs x input in
    let low : from.0 < nets net = All_has (λ n. n < nets net) h.inputs from.0 is.1 from.1 in
    omega (arith, ap (rank (nets net) c levels) from.2, rank_here (nets net) c levels s from.0 within low, rank_here (nets net) c levels s h.out within is.0, inputs_below net levels all h has from.0 from.1)

pub no_cycle : (net : NetList) (b : Binding) (c : ℕ) → IsSound net → HasCycle (all_cycles net b c) → ⊥
no_cycle net b c sound cycle =
    let levels = sound_levels net sound in
    no_cycle_by (Needs (all_cycles net b c)) (rank (nets net) c levels.0) (λ x y needs. by levels.0 levels.1 x y needs) cycle.0 cycle.1
  where
    by : (levels : Levels) → AllHaveLevels net levels → (x y : ℕ) → Needs (all_cycles net b c) x y → rank (nets net) c levels y < rank (nets net) c levels x
    by levels all x y (g, has, out, input) = omega (arith, ap (rank (nets net) c levels) out, falls net b c levels g y sound all (laid net b c c g has) input)

-- within the limits, it is sound
pub cycles_sound : (net : NetList) (b : Binding) (c : ℕ) → IsSound net → IsBoundTo net b → net_count net b c ≤ 2 ^ 20 → length (gates_to net b c c) ≤ 2 ^ 20 → IsSound (all_cycles net b c)
cycles_sound net b c sound bound few small = record {
  inside = cycles_inside net b c sound bound few small;
  one = λ m less. one_driver net b c m sound less;
  no_cycle = no_cycle net b c sound;
}
