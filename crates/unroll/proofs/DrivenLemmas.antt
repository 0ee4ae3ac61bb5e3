-- How often the nets of all cycles are driven.
use Rattle.std.proofs.Common.{◌≡◌, ◌≢◌, ◌∙◌, ap, sym, refl, subst, inl, inr, ℕ, zero, suc, ◌<◌, ◌≤◌, ◌+◌, Bool, true, false, not, List, [], ◌∷◌, ◌++◌, length, length-append, map, cond, arith}
use Rattle.std.specs.Prelude.{if◌then◌else◌}
use Rattle.std.specs.List.{filter, range_with_len}
use Rattle.std.proofs.lemmas.Bool.{cases_lt}
use Rattle.std.proofs.lemmas.List.{map-append}
use Rattle.lists.specs.Lists.{Has, times}
use Rattle.lists.specs.laws.HasLaws.{All_has, Has_cases, times_append, times_none, range_has, range_once}
use Rattle.lists.specs.laws.ListLaws.{length_map as map-long}
use Rattle.lists.specs.laws.NumberLaws.{nat_eq_or}
use Rattle.lists.specs.laws.ReadLaws.{from_map}
use Rattle.lists.specs.laws.TestLaws.{one_here, none_here}
use Rattle.net_core.specs.GateValue.{GateValue}
use Rattle.net_core.specs.LatchValue.{LatchValue}
use Rattle.net_core.specs.Inside.{GateIsInside, LatchIsInside}
use Rattle.net_core.specs.NetList.{NetList, nets}
use Rattle.net_core.specs.Sound.{sources, driven, IsSound}
use Rattle.net_words.specs.Binding.{Binding}
use Rattle.net_words.specs.Feeds.{is_fed}
use Rattle.net_words.specs.declared.feed.Source.{Source}
use Rattle.net_words.specs.declared.feed.Source.TheVariants.{Zero, One, Bit}
use Rattle.unroll.specs.Gates.{buffer, feeding_gate, first_gates, gate_at, gates_to, input_gate, is_held, latch_gate, next_gates, source_gate, start_gate}
use Rattle.unroll.specs.Nets.{unrolled_inputs}
use Rattle.unroll.specs.Places.{net_at, cycle_nets, fed_count}
use Rattle.unroll.specs.Sources.{source_at}
use Rattle.unroll.proofs.PlaceLemmas.{first_at, at_below, one_cycle}

-- ---- the outputs of the gates

abbrev pub outs : List GateValue → List ℕ
outs gates = map (λ g. g.out) gates

pub outs_append : (a b : List GateValue) → outs (a ++ b) ≡ outs a ++ outs b
outs_append a b = map-append (λ (g : GateValue). g.out) a b

source_out : (net : NetList) (b : Binding) (c out : ℕ) (source : Source) → (source_gate net b c out source).out ≡ out
source_out net b c out Zero = refl
source_out net b c out One = refl
source_out net b c out (Bit w place) = refl

pub feeding_out : (net : NetList) (b : Binding) (c t n : ℕ) → (feeding_gate net b c t n).out ≡ net_at (nets net) t n
feeding_out net b c t n = source_out net b c (net_at (nets net) t n) (source_at b.feeds n t)

input_out : (net : NetList) (b : Binding) (c t n : ℕ) → (input_gate net b c t n).out ≡ net_at (nets net) t n
input_out net b c t n = by (is_fed b.feeds n)
  where
    by : (r : Bool) → (if r then feeding_gate net b c t n else buffer (net_at (nets net) t n) n).out ≡ net_at (nets net) t n
    by true = feeding_out net b c t n
    by false = refl

same_outs : {X : Type 0} (f : X → GateValue) (g : X → ℕ) (xs : List X) → ((x : X) → (f x).out ≡ g x) → outs (map f xs) ≡ map g xs
same_outs f g [] each = refl
same_outs f g (x ∷ xs) each = ap (λ n. n ∷ outs (map f xs)) (each x) ∙ ap (λ ns. g x ∷ ns) (same_outs f g xs each)

map_map : {X : Type 0} (f : ℕ → ℕ) (g : X → ℕ) (xs : List X) → map (λ x. f (g x)) xs ≡ map f (map g xs)
map_map f g [] = refl
map_map f g (x ∷ xs) = ap (λ ns. f (g x) ∷ ns) (map_map f g xs)

map_same : (f : ℕ → ℕ) (xs : List ℕ) → ((x : ℕ) → f x ≡ x) → map f xs ≡ xs
map_same f [] each = refl
map_same f (x ∷ xs) each = ap (λ n. n ∷ map f xs) (each x) ∙ ap (λ ns. x ∷ ns) (map_same f xs each)

-- the gates of a cycle after the first drive each driven net once as often as it is driven
pub next_outs : (net : NetList) (b : Binding) (c t : ℕ) → outs (next_gates net b c t) ≡ map (net_at (nets net) (t + 1)) (driven net)
next_outs net b c t =
    let at : ℕ → ℕ = net_at (nets net) (t + 1) in
    let inputs : outs (map (input_gate net b c (t + 1)) net.inputs) ≡ map at net.inputs = same_outs (input_gate net b c (t + 1)) at net.inputs (λ n. input_out net b c (t + 1) n) in
    let latches : outs (map (latch_gate (nets net) t) net.latches) ≡ map at (map (λ l. l.out) net.latches) = same_outs (latch_gate (nets net) t) (λ l. at l.out) net.latches (λ l. refl) ∙ map_map at (λ (l : LatchValue). l.out) net.latches in
    let gates : outs (map (gate_at (nets net) (t + 1)) net.gates) ≡ map at (outs net.gates) = same_outs (gate_at (nets net) (t + 1)) (λ g. at g.out) net.gates (λ g. refl) ∙ map_map at (λ (g : GateValue). g.out) net.gates in
    let first : List GateValue = map (input_gate net b c (t + 1)) net.inputs in
    let second : List GateValue = map (latch_gate (nets net) t) net.latches in
    let third : List GateValue = map (gate_at (nets net) (t + 1)) net.gates in
    let ls : List ℕ = map (λ l. l.out) net.latches in
    outs_append first (second ++ third)
    ∙ (ap (λ ns. outs first ++ ns) (outs_append second third)
    ∙ (ap (λ ns. ns ++ (outs second ++ outs third)) inputs
    ∙ (ap (λ ns. map at net.inputs ++ (ns ++ outs third)) latches
    ∙ (ap (λ ns. map at net.inputs ++ (map at ls ++ ns)) gates
    ∙ (join at net.inputs ls (outs net.gates))))))
  where
    join : (f : ℕ → ℕ) (xs ys zs : List ℕ) → map f xs ++ (map f ys ++ map f zs) ≡ map f ((xs ++ ys) ++ zs)
    join f [] ys zs = sym (map-append f ys zs)
    join f (x ∷ xs) ys zs = ap (λ ns. f x ∷ ns) (join f xs ys zs)

-- the gates of the first cycle drive the fed nets, the latches in no state word, and what the gates drive
pub first_outs : (net : NetList) (b : Binding) (c n : ℕ) → times n (outs (first_gates net b c)) ≡ times n (filter (is_fed b.feeds) net.inputs) + (times n (map (λ l. l.out) (filter (λ l. not (is_held b l)) net.latches)) + times n (outs net.gates))
first_outs net b c n =
    let at : ℕ → ℕ = net_at (nets net) 0 in
    let fed : List ℕ = filter (is_fed b.feeds) net.inputs in
    let started : List LatchValue = filter (λ l. not (is_held b l)) net.latches in
    let first : List GateValue = map (feeding_gate net b c 0) fed in
    let second : List GateValue = map start_gate started in
    let third : List GateValue = map (gate_at (nets net) 0) net.gates in
    let one : outs first ≡ fed = same_outs (feeding_gate net b c 0) at fed (λ m. feeding_out net b c 0 m) ∙ map_same at fed (λ m. first_at (nets net) m) in
    let two : outs second ≡ map (λ l. l.out) started = same_outs start_gate (λ l. l.out) started (λ l. refl) in
    let three : outs third ≡ outs net.gates = same_outs (gate_at (nets net) 0) (λ g. at g.out) net.gates (λ g. refl) ∙ (map_map at (λ (g : GateValue). g.out) net.gates ∙ map_same at (outs net.gates) (λ m. first_at (nets net) m)) in
    omega (arith, ap (times n) (outs_append first (second ++ third)), times_append n (outs first) (outs (second ++ third)), ap (times n) (outs_append second third), times_append n (outs second) (outs third), ap (times n) one, ap (times n) two, ap (times n) three)

-- ---- how often they stand

pub times_shift : (v t n : ℕ) (xs : List ℕ) → times (net_at v t n) (map (net_at v t) xs) ≡ times n xs
times_shift v t n [] = refl
times_shift v t n (x ∷ xs) =
    elim (nat_eq_or x n) [
      | inl same ↦ omega (arith, one_here n x same, one_here (net_at v t n) (net_at v t x) (ap (net_at v t) same), times_shift v t n xs)
      | inr other ↦ omega (arith, none_here n x other, none_here (net_at v t n) (net_at v t x) (λ e. other (omega (arith, e))), times_shift v t n xs)
    ]

pub has_shift : (v t : ℕ) (xs : List ℕ) (m : ℕ) → Has (map (net_at v t) xs) m → (x : ℕ) × Has xs x × (net_at v t x ≡ m)
has_shift v t xs m has = let from = from_map (net_at v t) xs has.0 m has.1 in (from.0, (has.0, from.1), from.2)

-- another cycle has not this net
pub other_cycle : (v t s n : ℕ) (xs : List ℕ) → n < v → ((x : ℕ) → Has xs x → x < v) → t ≢ s → times (net_at v t n) (map (net_at v s) xs) ≡ 0
other_cycle v t s n xs less low apart = times_none (net_at v t n) (map (net_at v s) xs) (λ has. let from = has_shift v s xs (net_at v t n) has in apart (one_cycle v t s n from.0 less (low from.0 from.1) (sym from.2)))

-- a net after those of the cycles is in none
pub after_cycles : (v c s m : ℕ) (xs : List ℕ) → s ≤ c → cycle_nets v c ≤ m → ((x : ℕ) → Has xs x → x < v) → times m (map (net_at v s) xs) ≡ 0
after_cycles v c s m xs within high low = times_none m (map (net_at v s) xs) (λ has. let from = has_shift v s xs m has in omega (arith, at_below v c s from.0 within (low from.0 from.1), from.2, high))

pub times_both : (p : ℕ → Bool) (n : ℕ) (xs : List ℕ) → times n (filter (λ x. not (p x)) xs) + times n (filter p xs) ≡ times n xs
times_both p n [] = refl
times_both p n (x ∷ xs) =
    let rest : times n (filter (λ y. not (p y)) xs) + times n (filter p xs) ≡ times n xs = times_both p n xs in
    elim (p x) as (λ b. times n (cond (not b) (x ∷ filter (λ y. not (p y)) xs) (filter (λ y. not (p y)) xs)) + times n (cond b (x ∷ filter p xs) (filter p xs)) ≡ times n (x ∷ xs)) [ true ↦ omega (arith, rest) | false ↦ omega (arith, rest) ]

pub mapped_both : {X : Type 0} (f : X → ℕ) (p : X → Bool) (n : ℕ) (xs : List X) → times n (map f (filter p xs)) + times n (map f (filter (λ x. not (p x)) xs)) ≡ times n (map f xs)
mapped_both f p n [] = refl
mapped_both f p n (x ∷ xs) =
    let rest : times n (map f (filter p xs)) + times n (map f (filter (λ y. not (p y)) xs)) ≡ times n (map f xs) = mapped_both f p n xs in
    elim (p x) as (λ b. times n (map f (cond b (x ∷ filter p xs) (filter p xs))) + times n (map f (cond (not b) (x ∷ filter (λ y. not (p y)) xs) (filter (λ y. not (p y)) xs))) ≡ times n (map f (x ∷ xs))) [ true ↦ omega (arith, rest) | false ↦ omega (arith, rest) ]

-- ---- the nets of all cycles

pub driven_low : (net : NetList) → IsSound net → (x : ℕ) → Has (driven net) x → x < nets net
driven_low net sound x has =
    elim (Has_cases (sources net) (outs net.gates) x has) [
      | inl here ↦ elim (Has_cases net.inputs (map (λ l. l.out) net.latches) x here) [
        | inl input ↦ All_has (λ n. n < nets net) net.inputs x sound.inside.inputs input
        | inr latch ↦ let from = from_map (λ (l : LatchValue). l.out) net.latches latch.0 x latch.1 in
            let low = (All_has (LatchIsInside (nets net)) net.latches from.0 sound.inside.latches (latch.0, from.1)).1 in omega (arith, low, from.2)
      ]
      | inr gate ↦ let from = from_map (λ (g : GateValue). g.out) net.gates gate.0 x gate.1 in
          let low = (All_has (GateIsInside (nets net)) net.gates from.0 sound.inside.gates (gate.0, from.1)).0 in omega (arith, low, from.2)
    ]

-- a number that is no net of the first cycle is driven by nothing there
none_high : (net : NetList) (b : Binding) (c m : ℕ) → IsSound net → nets net ≤ m → (times m (outs (first_gates net b c)) ≡ 0) × ((times m net.inputs ≡ 0) × (times m (map (λ l. l.out) net.latches) ≡ 0))
none_high net b c m sound high =
    let ls : List ℕ = map (λ l. l.out) net.latches in
    let none : times m (driven net) ≡ 0 = times_none m (driven net) (λ has. omega (arith, driven_low net sound m has, high)) in
    let all : times m (driven net) ≡ times m net.inputs + times m ls + times m (outs net.gates) = times_append m (sources net) (outs net.gates) ∙ ap (λ k. k + times m (outs net.gates)) (times_append m net.inputs ls) in (
      omega (arith, none, all, first_outs net b c m, times_both (is_fed b.feeds) m net.inputs, mapped_both (λ (l : LatchValue). l.out) (is_held b) m net.latches),
      (omega (arith, none, all), omega (arith, none, all)),
    )

more_outs : (net : NetList) (b : Binding) (c t m : ℕ) → times m (outs (gates_to net b c (suc t))) ≡ times m (outs (gates_to net b c t)) + times m (map (net_at (nets net) (t + 1)) (driven net))
more_outs net b c t m = ap (times m) (outs_append (gates_to net b c t) (next_gates net b c t)) ∙ (times_append m (outs (gates_to net b c t)) (outs (next_gates net b c t)) ∙ ap (λ ns. times m (outs (gates_to net b c t)) + times m ns) (next_outs net b c t))

past_first : (v s n : ℕ) → 0 < s → v ≤ net_at v s n
past_first v zero n some = absurd (omega arith)
past_first v (suc s) n some = omega arith

-- the gates of the cycles to t drive no net of a later cycle
none_yet : (net : NetList) (b : Binding) (c t s n : ℕ) → IsSound net → n < nets net → t < s → times (net_at (nets net) s n) (outs (gates_to net b c t)) ≡ 0
none_yet net b c zero s n sound less later = (none_high net b c (net_at (nets net) s n) sound (past_first (nets net) s n later)).0
none_yet net b c (suc t) s n sound less later =
    omega (arith, more_outs net b c t (net_at (nets net) s n), none_yet net b c t s n sound less (omega (arith, later)), other_cycle (nets net) s (t + 1) n (driven net) less (driven_low net sound) (λ e. omega (arith, e, later)))

-- they drive each net of a cycle from 1 to t once
one_there : (net : NetList) (b : Binding) (c t s n : ℕ) → IsSound net → n < nets net → 0 < s → s ≤ t → times (net_at (nets net) s n) (outs (gates_to net b c t)) ≡ 1
one_there net b c zero s n sound less some within = absurd (omega arith)
one_there net b c (suc t) s n sound less some within =
    elim (cases_lt t s) [
      | inl last ↦
          let is : s ≡ t + 1 = omega (arith, last, within) in
          let P : ℕ → Type 0 = λ r. times (net_at (nets net) s n) (map (net_at (nets net) r) (driven net)) ≡ times n (driven net) in
          let here : times (net_at (nets net) s n) (map (net_at (nets net) (t + 1)) (driven net)) ≡ times n (driven net) = subst P is (times_shift (nets net) s n (driven net)) in
          omega (arith, more_outs net b c t (net_at (nets net) s n), none_yet net b c t s n sound less last, here, sound.one n less)
      | inr before ↦ omega (arith, more_outs net b c t (net_at (nets net) s n), one_there net b c t s n sound less some before, other_cycle (nets net) s (t + 1) n (driven net) less (driven_low net sound) (λ e. omega (arith, e, before)))
    ]

-- a net of the first cycle is driven by the gates of the first cycle alone
first_there : (net : NetList) (b : Binding) (c t n : ℕ) → IsSound net → n < nets net → times n (outs (gates_to net b c t)) ≡ times n (outs (first_gates net b c))
first_there net b c zero n sound less = refl
first_there net b c (suc t) n sound less =
    let P : ℕ → Type 0 = λ m. times m (map (net_at (nets net) (t + 1)) (driven net)) ≡ 0 in
    let none : times n (map (net_at (nets net) (t + 1)) (driven net)) ≡ 0 = subst P (first_at (nets net) n) (other_cycle (nets net) 0 (t + 1) n (driven net) less (driven_low net sound) (λ e. omega (arith, e))) in
    omega (arith, more_outs net b c t n, first_there net b c t n sound less, none)

-- no gate drives a net after those of the cycles
none_after : (net : NetList) (b : Binding) (c t m : ℕ) → IsSound net → t ≤ c → cycle_nets (nets net) c ≤ m → times m (outs (gates_to net b c t)) ≡ 0
none_after net b c zero m sound within high = (none_high net b c m sound (omega (arith, high))).0
none_after net b c (suc t) m sound within high = omega (arith, more_outs net b c t m, none_after net b c t m sound (omega (arith, within)) high, after_cycles (nets net) c (t + 1) m (driven net) (omega (arith, within)) high (driven_low net sound))

inputs_times : (net : NetList) (b : Binding) (c m : ℕ) → times m (unrolled_inputs net b c) ≡ times m (filter (λ n. not (is_fed b.feeds n)) net.inputs) + (times m (map (λ l. l.out) (filter (is_held b) net.latches)) + times m (range_with_len (cycle_nets (nets net) c) (fed_count b.k b.words)))
inputs_times net b c m =
    times_append m (filter (λ n. not (is_fed b.feeds n)) net.inputs) (map (λ l. l.out) (filter (is_held b) net.latches) ++ range_with_len (cycle_nets (nets net) c) (fed_count b.k b.words))
    ∙ ap (λ k. times m (filter (λ n. not (is_fed b.feeds n)) net.inputs) + k) (times_append m (map (λ l. l.out) (filter (is_held b) net.latches)) (range_with_len (cycle_nets (nets net) c) (fed_count b.k b.words)))

no_bit : (net : NetList) (b : Binding) (c m : ℕ) → m < cycle_nets (nets net) c → times m (range_with_len (cycle_nets (nets net) c) (fed_count b.k b.words)) ≡ 0
no_bit net b c m low = times_none m (range_with_len (cycle_nets (nets net) c) (fed_count b.k b.words)) (λ has. omega (arith, low, (range_has (cycle_nets (nets net) c) (fed_count b.k b.words) m has).0))

-- each net of all cycles, and each bit of a fed word, has one driver
pub one_driver_low : (net : NetList) (b : Binding) (c s n : ℕ) → IsSound net → s ≤ c → n < nets net → times (net_at (nets net) s n) (unrolled_inputs net b c) + times (net_at (nets net) s n) (outs (gates_to net b c c)) ≡ 1
one_driver_low net b c zero n sound within less =
    let P : ℕ → Type 0 = λ m. times m (unrolled_inputs net b c) + times m (outs (gates_to net b c c)) ≡ 1 in
    let ls : List ℕ = map (λ l. l.out) net.latches in
    let all : times n (driven net) ≡ times n net.inputs + times n ls + times n (outs net.gates) = times_append n (sources net) (outs net.gates) ∙ ap (λ k. k + times n (outs net.gates)) (times_append n net.inputs ls) in
    subst P (sym (first_at (nets net) n)) (omega (arith, inputs_times net b c n, first_there net b c c n sound less, first_outs net b c n, times_both (is_fed b.feeds) n net.inputs, mapped_both (λ (l : LatchValue). l.out) (is_held b) n net.latches, no_bit net b c n (omega (arith, less)), all, sound.one n less))
one_driver_low net b c (suc s) n sound within less =
    let m : ℕ = net_at (nets net) (suc s) n in
    let none = none_high net b c m sound (past_first (nets net) (suc s) n (omega arith)) in
    omega (arith, inputs_times net b c m, one_there net b c c (suc s) n sound less (omega arith) within, times_both (is_fed b.feeds) m net.inputs, mapped_both (λ (l : LatchValue). l.out) (is_held b) m net.latches, no_bit net b c m (at_below (nets net) c (suc s) n within less), none.1.0, none.1.1)

pub one_driver_high : (net : NetList) (b : Binding) (c m : ℕ) → IsSound net → cycle_nets (nets net) c ≤ m → m < cycle_nets (nets net) c + fed_count b.k b.words → times m (unrolled_inputs net b c) + times m (outs (gates_to net b c c)) ≡ 1
one_driver_high net b c m sound high low =
    let none = none_high net b c m sound (omega (arith, high)) in
    omega (arith, inputs_times net b c m, none_after net b c c m sound (omega arith) high, times_both (is_fed b.feeds) m net.inputs, mapped_both (λ (l : LatchValue). l.out) (is_held b) m net.latches, range_once (cycle_nets (nets net) c) (fed_count b.k b.words) m high low, none.1.0, none.1.1)

-- ---- how many nets are driven

-- how many places hold a number below c
abbrev places_below : ℕ → List ℕ → ℕ
places_below zero xs = 0
places_below (suc c) xs = times c xs + places_below c xs

below_past : (c x : ℕ) (xs : List ℕ) → c ≤ x → places_below c (x ∷ xs) ≡ places_below c xs
below_past zero x xs past = refl
below_past (suc c) x xs past = omega (arith, none_here c x (λ e. omega (arith, e, past)), below_past c x xs (omega arith))

below_here : (c x : ℕ) (xs : List ℕ) → x < c → places_below c (x ∷ xs) ≡ 1 + places_below c xs
below_here zero x xs less = absurd (omega arith)
below_here (suc c) x xs less =
    elim (nat_eq_or x c) [
      | inl same ↦ omega (arith, one_here c x same, below_past c x xs (omega arith))
      | inr other ↦ omega (arith, none_here c x other, below_here c x xs (omega (arith, other, less)))
    ]

below_none : (c : ℕ) → places_below c [] ≡ 0
below_none zero = refl
below_none (suc c) = omega (arith, below_none c)

below_all : (c : ℕ) (xs : List ℕ) → ((n : ℕ) → Has xs n → n < c) → places_below c xs ≡ length xs
below_all c [] each = below_none c
below_all c (x ∷ xs) each = omega (arith, below_here c x xs (each x (0, refl)), below_all c xs (λ n has. each n (suc has.0, has.1)))

below_each : (c : ℕ) (xs : List ℕ) → ((n : ℕ) → n < c → times n xs ≡ 1) → places_below c xs ≡ c
below_each zero xs once = refl
below_each (suc c) xs once = omega (arith, once c (omega arith), below_each c xs (λ n less. once n (omega arith)))

-- as many nets are driven as there are
pub driven_long : (net : NetList) → IsSound net → length net.inputs + length net.latches + length net.gates ≡ nets net
driven_long net sound =
    let all : length (driven net) ≡ nets net = sym (below_all (nets net) (driven net) (driven_low net sound)) ∙ below_each (nets net) (driven net) sound.one in
    omega (arith, all, length-append (sources net) (outs net.gates), length-append net.inputs (map (λ l. l.out) net.latches), map-long (λ (l : LatchValue). l.out) net.latches, map-long (λ (g : GateValue). g.out) net.gates)
