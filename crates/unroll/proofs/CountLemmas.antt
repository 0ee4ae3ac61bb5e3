-- How many nets and gates all cycles have.
use Rattle.std.proofs.Common.{◌≡◌, ◌∙◌, ap, sym, refl, inl, inr, ℕ, zero, suc, ◌+◌, ◌*◌, false, not, List, [], ◌∷◌, ◌++◌, length, length-append, map, Some, arith}
use Rattle.std.specs.Prelude.{slice_get}
use Rattle.std.specs.List.{filter, range_with_len}
use Rattle.std.proofs.lemmas.List.FromFn.{length-map-range_with_len}
use Rattle.lists.specs.Lists.{Has}
use Rattle.lists.specs.laws.HasLaws.{Has_cases}
use Rattle.lists.specs.laws.ListLaws.{length_map as map-long}
use Rattle.lists.specs.laws.ReadLaws.{from_map}
use Rattle.net_core.specs.GateValue.{GateValue}
use Rattle.net_core.specs.LatchValue.{LatchValue}
use Rattle.net_core.specs.NetList.{NetList, LabelValue, nets}
use Rattle.net_words.specs.Binding.{Binding}
use Rattle.net_words.specs.Feeds.{is_fed}
use Rattle.net_words.specs.declared.bound.BoundWord.{BoundWord}
use Rattle.unroll.specs.Gates.{feeding_gate, first_gates, gate_at, gates_to, input_gate, is_held, latch_gate, next_gates, start_gate}
use Rattle.unroll.specs.Nets.{all_cycles, bit_label, fed_labels, labels_to, unnamed}
use Rattle.unroll.specs.Places.{cycle_nets, fed_bits, fed_count}
use Rattle.unroll.specs.private.Plan.{net_count}

pub labels_long : (labels : List LabelValue) (t : ℕ) → length (labels_to labels t) ≡ cycle_nets (length labels) t
labels_long labels zero = omega (arith, map-long unnamed labels)
labels_long labels (suc t) = omega (arith, length-append (labels_to labels t) (map unnamed labels), map-long unnamed labels, labels_long labels t)

pub fed_long : (k : ℕ) (words : List BoundWord) → length (fed_labels k words) ≡ fed_count k words
fed_long k [] = refl
fed_long k (word ∷ words) = omega (arith, length-append (map (bit_label word.name) (range_with_len 0 (fed_bits k word.role))) (fed_labels k words), length-map-range_with_len (bit_label word.name) 0 (fed_bits k word.role), fed_long k words)

-- how many nets there are
pub nets_long : (net : NetList) (b : Binding) (c : ℕ) → nets (all_cycles net b c) ≡ net_count net b c
nets_long net b c = omega (arith, length-append (labels_to net.labels c) (fed_labels b.k b.words), labels_long net.labels c, fed_long b.k b.words)

-- no net is named
unnamed_to : (labels : List LabelValue) (t : ℕ) (l : LabelValue) → Has (labels_to labels t) l → l.named ≡ false
unnamed_to labels zero l has = let from = from_map unnamed labels has.0 l has.1 in sym (ap (λ (k : LabelValue). k.named) from.2)
unnamed_to labels (suc t) l has =
    elim (Has_cases (labels_to labels t) (map unnamed labels) l has) [
      | inl before ↦ unnamed_to labels t l before
      | inr here ↦ let from = from_map unnamed labels here.0 l here.1 in sym (ap (λ (k : LabelValue). k.named) from.2)
    ]

unnamed_fed : (k : ℕ) (words : List BoundWord) (l : LabelValue) → Has (fed_labels k words) l → l.named ≡ false
unnamed_fed k [] l has = let got = has.1 in absurd (cc)
unnamed_fed k (word ∷ words) l has =
    elim (Has_cases (map (bit_label word.name) (range_with_len 0 (fed_bits k word.role))) (fed_labels k words) l has) [
      | inl here ↦ let from = from_map (bit_label word.name) (range_with_len 0 (fed_bits k word.role)) here.0 l here.1 in sym (ap (λ (k : LabelValue). k.named) from.2)
      | inr later ↦ unnamed_fed k words l later
    ]

pub all_unnamed : (net : NetList) (b : Binding) (c n : ℕ) (l : LabelValue) → slice_get (all_cycles net b c).labels n ≡ Some l → l.named ≡ false
all_unnamed net b c n l got =
    elim (Has_cases (labels_to net.labels c) (fed_labels b.k b.words) l (n, got)) [
      | inl here ↦ unnamed_to net.labels c l here
      | inr later ↦ unnamed_fed b.k b.words l later
    ]

first_long : (net : NetList) (b : Binding) (c : ℕ) → length (first_gates net b c) ≡ length (filter (is_fed b.feeds) net.inputs) + (length (filter (λ l. not (is_held b l)) net.latches) + length net.gates)
first_long net b c =
    let fed : List ℕ = filter (is_fed b.feeds) net.inputs in
    let started : List LatchValue = filter (λ l. not (is_held b l)) net.latches in
    let first : List GateValue = map (feeding_gate net b c 0) fed in
    let second : List GateValue = map start_gate started in
    let third : List GateValue = map (gate_at (nets net) 0) net.gates in
    omega (arith, length-append first (second ++ third), length-append second third, map-long (feeding_gate net b c 0) fed, map-long start_gate started, map-long (gate_at (nets net) 0) net.gates)

pub next_long : (net : NetList) (b : Binding) (c t : ℕ) → length (next_gates net b c t) ≡ length net.inputs + (length net.latches + length net.gates)
next_long net b c t =
    let first : List GateValue = map (input_gate net b c (t + 1)) net.inputs in
    let second : List GateValue = map (latch_gate (nets net) t) net.latches in
    let third : List GateValue = map (gate_at (nets net) (t + 1)) net.gates in
    omega (arith, length-append first (second ++ third), length-append second third, map-long (input_gate net b c (t + 1)) net.inputs, map-long (latch_gate (nets net) t) net.latches, map-long (gate_at (nets net) (t + 1)) net.gates)

-- how many gates there are: with G gates, I primary inputs, L latches, U of them in no state word, and H fed nets there are
-- (t + 1) G + U + t (I + L) + H in the cycles from 0 to t
pub gates_long : (net : NetList) (b : Binding) (c t : ℕ) → length (gates_to net b c t) ≡ (t + 1) * length net.gates + length (filter (λ l. not (is_held b l)) net.latches) + t * (length net.inputs + length net.latches) + length (filter (is_fed b.feeds) net.inputs)
gates_long net b c zero = omega (arith, first_long net b c)
gates_long net b c (suc t) = omega (arith, length-append (gates_to net b c t) (next_gates net b c t), gates_long net b c t, next_long net b c t)

pub gate_sum : (net : NetList) (b : Binding) (c cycles g u x y h : ℕ) → cycles ≡ c → g ≡ length net.gates → u ≡ length (filter (λ l. not (is_held b l)) net.latches) → x ≡ length net.inputs → y ≡ length net.latches → h ≡ length (filter (is_fed b.feeds) net.inputs) → (cycles + 1) * g + u + cycles * (x + y) + h ≡ length (gates_to net b c c)
gate_sum net b c cycles g u x y h e_c e_g e_u e_x e_y e_h =
    ap (λ n. (n + 1) * g + u + n * (x + y) + h) e_c
    ∙ (ap (λ n. (c + 1) * n + u + c * (x + y) + h) e_g
    ∙ (ap (λ n. (c + 1) * length net.gates + n + c * (x + y) + h) e_u
    ∙ (ap (λ n. (c + 1) * length net.gates + length (filter (λ l. not (is_held b l)) net.latches) + c * (n + y) + h) e_x
    ∙ (ap (λ n. (c + 1) * length net.gates + length (filter (λ l. not (is_held b l)) net.latches) + c * (length net.inputs + n) + h) e_y
    ∙ (ap (λ n. (c + 1) * length net.gates + length (filter (λ l. not (is_held b l)) net.latches) + c * (length net.inputs + length net.latches) + n) e_h
    ∙ sym (gates_long net b c c))))))
