-- The gates of all cycles, kind by kind.
use Rattle.std.proofs.Common.{◌≡◌, ◌∙◌, ap, sym, refl, subst, inl, inr, ℕ, zero, suc, ◌<◌, ◌≤◌, ◌+◌, Bool, true, false, not, List, [], ◌∷◌, ◌++◌, map, Some, arith}
use Rattle.std.specs.Prelude.{if◌then◌else◌}
use Rattle.std.specs.List.{filter}
use Rattle.lists.specs.Lists.{Has}
use Rattle.lists.specs.laws.BoolLaws.{not_true}
use Rattle.lists.specs.laws.HasLaws.{Has_cases}
use Rattle.lists.specs.laws.ReadLaws.{from_map}
use Rattle.net_core.specs.GateValue.{GateValue}
use Rattle.net_core.specs.LatchValue.{LatchValue}
use Rattle.net_core.specs.NetList.{NetList, nets}
use Rattle.net_words.specs.Binding.{Binding}
use Rattle.net_words.specs.Feeds.{is_fed}
use Rattle.unroll.specs.Gates.{buffer, feeding_gate, gate_at, gates_to, input_gate, is_held, latch_gate, next_gates, start_gate}
use Rattle.unroll.specs.Places.{net_at}

-- what passes a test is in the list and passes
pub has_filter : {X : Type 0} (p : X → Bool) (xs : List X) (x : X) → Has (filter p xs) x → Has xs x × (p x ≡ true)
has_filter p [] x has = let got = has.1 in absurd (cc)
has_filter {X} p (y ∷ ys) x has = by (p y) refl (λ later. has_filter p ys x later) has
  where
    further : Has ys x × (p x ≡ true) → Has (y ∷ ys) x × (p x ≡ true)
    further rest = ((suc rest.0.0, rest.0.1), rest.1)

    by : (b : Bool) → p y ≡ b → (Has (filter p ys) x → Has ys x × (p x ≡ true)) → Has (if b then (y ∷ filter p ys) else filter p ys) x → Has (y ∷ ys) x × (p x ≡ true)
    by true hit each (zero, got) = let same : y ≡ x = cc in ((0, ap Some same), sym (ap p same) ∙ hit)
    by true hit each (suc i, got) = further (each (i, got))
    by false miss each later = further (each later)

-- what is in a list and passes is among what passes
pub filter_has : {X : Type 0} (p : X → Bool) (xs : List X) (x : X) → Has xs x → p x ≡ true → Has (filter p xs) x
filter_has p [] x has hit = let got = has.1 in absurd (cc)
filter_has {X} p (y ∷ ys) x (zero, got) hit =
    let same : y ≡ x = cc in
    let P : Bool → Type 0 = λ b. Has (if b then (y ∷ filter p ys) else filter p ys) x in
    let passes : p y ≡ true = ap p same ∙ hit in
    subst P (sym passes) (0, ap Some same)
filter_has {X} p (y ∷ ys) x (suc i, got) hit = by (p y) (filter_has p ys x (i, got) hit)
  where
    by : (b : Bool) → Has (filter p ys) x → Has (if b then (y ∷ filter p ys) else filter p ys) x
    by true (j, found) = (suc j, found)
    by false found = found

-- a gate of the cycles from 0 to t
pub data IsLaid (net : NetList) (binding : Binding) (c t : ℕ) : GateValue → Type 0 where
  of_feed : (s n : ℕ) → s ≤ t → Has net.inputs n → is_fed binding.feeds n ≡ true → IsLaid net binding c t (feeding_gate net binding c s n)
  of_input : (s n : ℕ) → s < t → Has net.inputs n → is_fed binding.feeds n ≡ false → IsLaid net binding c t (buffer (net_at (nets net) (s + 1) n) n)
  of_latch : (s : ℕ) (l : LatchValue) → s < t → Has net.latches l → IsLaid net binding c t (latch_gate (nets net) s l)
  of_start : (l : LatchValue) → Has net.latches l → is_held binding l ≡ false → IsLaid net binding c t (start_gate l)
  of_gate : (s : ℕ) (g : GateValue) → s ≤ t → Has net.gates g → IsLaid net binding c t (gate_at (nets net) s g)

later_laid : (net : NetList) (b : Binding) (c t : ℕ) (g : GateValue) → IsLaid net b c t g → IsLaid net b c (suc t) g
later_laid net b c t g (of_feed s n within has fed) = of_feed s n (omega (arith, within)) has fed
later_laid net b c t g (of_input s n less has unfed) = of_input s n (omega (arith, less)) has unfed
later_laid net b c t g (of_latch s l less has) = of_latch s l (omega (arith, less)) has
later_laid net b c t g (of_start l has free) = of_start l has free
later_laid net b c t g (of_gate s h within has) = of_gate s h (omega (arith, within)) has

-- a gate that was mapped from a list
mapped : {X : Type 0} (P : GateValue → Type 0) (f : X → GateValue) (xs : List X) (g : GateValue) → ((x : X) → Has xs x → P (f x)) → Has (map f xs) g → P g
mapped P f xs g each has = let from = from_map f xs has.0 g has.1 in subst P from.2 (each from.0 (has.0, from.1))

one_input : (net : NetList) (b : Binding) (c t n : ℕ) → Has net.inputs n → IsLaid net b c (suc t) (input_gate net b c (t + 1) n)
one_input net b c t n has = by (is_fed b.feeds n) refl
  where
    by : (r : Bool) → is_fed b.feeds n ≡ r → IsLaid net b c (suc t) (if r then feeding_gate net b c (t + 1) n else buffer (net_at (nets net) (t + 1) n) n)
    by true fed = of_feed (t + 1) n (omega arith) has fed
    by false unfed = of_input t n (omega arith) has unfed

-- each gate of the cycles from 0 to t is of one of the kinds
pub laid : (net : NetList) (b : Binding) (c t : ℕ) (g : GateValue) → Has (gates_to net b c t) g → IsLaid net b c t g
laid net b c zero g has =
    let fed : List ℕ = filter (is_fed b.feeds) net.inputs in
    let started : List LatchValue = filter (λ l. not (is_held b l)) net.latches in
    elim (Has_cases (map (feeding_gate net b c 0) fed) (map start_gate started ++ map (gate_at (nets net) 0) net.gates) g has) [
      | inl here ↦ mapped (IsLaid net b c 0) (feeding_gate net b c 0) fed g (λ n is. let from = has_filter (is_fed b.feeds) net.inputs n is in of_feed 0 n (omega arith) from.0 from.1) here
      | inr rest ↦ elim (Has_cases (map start_gate started) (map (gate_at (nets net) 0) net.gates) g rest) [
        | inl here ↦ mapped (IsLaid net b c 0) start_gate started g (λ l is. let from = has_filter (λ k. not (is_held b k)) net.latches l is in of_start l from.0 (not_true (is_held b l) from.1)) here
        | inr later ↦ mapped (IsLaid net b c 0) (gate_at (nets net) 0) net.gates g (λ h is. of_gate 0 h (omega arith) is) later
      ]
    ]
laid net b c (suc t) g has =
    elim (Has_cases (gates_to net b c t) (next_gates net b c t) g has) [
      | inl before ↦ later_laid net b c t g (laid net b c t g before)
      | inr next ↦ elim (Has_cases (map (input_gate net b c (t + 1)) net.inputs) (map (latch_gate (nets net) t) net.latches ++ map (gate_at (nets net) (t + 1)) net.gates) g next) [
        | inl here ↦ mapped (IsLaid net b c (suc t)) (input_gate net b c (t + 1)) net.inputs g (λ n is. one_input net b c t n is) here
        | inr rest ↦ elim (Has_cases (map (latch_gate (nets net) t) net.latches) (map (gate_at (nets net) (t + 1)) net.gates) g rest) [
          | inl here ↦ mapped (IsLaid net b c (suc t)) (latch_gate (nets net) t) net.latches g (λ l is. of_latch t l (omega arith) is) here
          | inr later ↦ mapped (IsLaid net b c (suc t)) (gate_at (nets net) (t + 1)) net.gates g (λ h is. of_gate (t + 1) h (omega arith) is) later
        ]
      ]
    ]
