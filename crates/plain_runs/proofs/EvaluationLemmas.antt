-- Gates at the end of an order get their values, one after another.
use Rattle.std.proofs.Common.{◌≡◌, ◌≢◌, ◌∙◌, ap, sym, subst, inl, inr, ℕ, zero, suc, ◌<◌, ◌≤◌, ◌+◌, ◌-◌, Bool, List, [], ◌∷◌, length, drop, reverse, Some, arith, length-set}
use Rattle.std.specs.Prelude.{slice_get, ◌==◌}
use Rattle.std.specs.Int.{bit_at}
use Rattle.std.proofs.Math.ListN.{set}
use Rattle.std.proofs.lemmas.List.{get_or-reverse, length-reverse, reverse-reverse}
use Rattle.std.proofs.lemmas.Option.{slice_get_within, get_or_from_slice_get}
use Rattle.lists.specs.Lists.{Has}
use Rattle.lists.specs.laws.NumberLaws.{nat_eq_or}
use Rattle.lists.specs.laws.ReadLaws.{got_at}
use Rattle.net_core.specs.GateValue.{GateValue}
use Rattle.net_core.specs.NetList.{NetList, nets}
use Rattle.net_core.specs.Sound.{IsSound}
use Rattle.net_core.specs.Level.{Levels}
use Rattle.net_core.specs.Levelled.{AllHaveLevels}
use Rattle.net_core.specs.Order.{rank_at, IsOrder, IsLevelOrder}
use Rattle.net_core.specs.Value.{bit_of, IsRight}
use Rattle.net_core.proofs.DriverLemmas.{gate_inside, gates_apart}
use Rattle.net_core.proofs.LawLemmas.{levels_only}
use Rattle.net_core.proofs.OrderLemmas.{before_all}
use Rattle.net_core.proofs.ExistLemmas.{sound_levels}
use Rattle.net_core.proofs.EvalLemmas.{bit_set_same, bit_set_other, index_set, inputs_below, value_of, not_self, not_later}
use Rattle.poly_mixed.specs.Polynomial.{Point}
use Rattle.stage_model.specs.Variables.{point_bits}
use Rattle.stage_model.specs.Cut.{IsAmongFirst, IsSettled}
use Rattle.stage_model.specs.private.Plain.{IsAt, AreSettledFrom}
use Rattle.stage_model.proofs.PointLemmas.{point_bits_at}

-- in an order by levels each net has a level
pub with_levels : (net : NetList) (order : List ℕ) → IsSound net → IsLevelOrder net order → (levels : Levels) × AllHaveLevels net levels × IsOrder net levels order
with_levels net order sound is =
    let found = sound_levels net sound in
    let P : Levels → Type 0 = λ levels. IsOrder net levels order in
    (found.0, found.1, subst P (levels_only net is.0 found.0 sound.one is.1 found.1.0) is.2)

module _ (net : NetList) (order : List ℕ) (from : ℕ) (start : List Bool) where
  module _ (sound : IsSound net) (levels : Levels) (all : AllHaveLevels net levels) (is : IsOrder net levels order) (k p : ℕ) (g : GateValue) (bits : List Bool)
      (here : slice_get order k ≡ Some p) (gate : slice_get net.gates p ≡ Some g) (low : from ≤ k) (settled : AreSettledFrom net order from k start bits) where
    within : g.out < length bits
    within = omega (arith, (gate_inside net g sound.inside (p, gate)).0, settled.long)

    own : IsRight (set bits g.out (value_of bits g)) g
    own =
        let free : Has g.inputs g.out → ⊥ = λ has. omega (arith, inputs_below net levels all g (p, gate) g.out has) in
        bit_set_same bits g.out (value_of bits g) within ∙ sym (ap (λ i. bit_at g.table i == 1) (index_set bits g.out (value_of bits g) g.inputs free))

    earlier : (j q : ℕ) (h : GateValue) → j < k → slice_get order j ≡ Some q → slice_get net.gates q ≡ Some h → IsRight bits h → IsRight (set bits g.out (value_of bits g)) h
    earlier j q h less at got right =
        let place : j + suc (k - j - 1) ≡ k = omega arith in
        let P : ℕ → Type 0 = λ m. slice_get order m ≡ Some p in
        let before = before_all net levels order is (k - j - 1) j q p h g at (subst P (sym place) here) got gate in
        let outs : h.out ≢ g.out = λ same. not_self (rank_at levels h.out) (rank_at levels g.out) q p (ap (rank_at levels) same) (gates_apart net q p h g sound.inside sound.one got gate same) before in
        let free : Has h.inputs g.out → ⊥ = λ has. omega (arith, inputs_below net levels all h (q, got) g.out has, not_later (rank_at levels h.out) (rank_at levels g.out) q p before) in
        bit_set_other bits g.out (value_of bits g) h.out outs ∙ (right ∙ sym (ap (λ i. bit_at h.table i == 1) (index_set bits g.out (value_of bits g) h.inputs free)))

    same_gate : (j q : ℕ) (h : GateValue) → j ≡ k → slice_get order j ≡ Some q → slice_get net.gates q ≡ Some h → g ≡ h
    same_gate j q h same at got =
        let P : ℕ → Type 0 = λ m. slice_get order m ≡ Some q in
        let at' : slice_get order k ≡ Some q = subst P same at in
        let place : q ≡ p = cc in
        let got' : slice_get net.gates p ≡ Some h = ap (slice_get net.gates) (sym place) ∙ got in
        cc

    pub settled_step : AreSettledFrom net order from (k + 1) start (set bits g.out (value_of bits g))
    settled_step = record {
      long = length-set bits g.out (value_of bits g) ∙ settled.long;
      right = λ h at. elim (nat_eq_or at.place k) [
        | inl same ↦ let Q : GateValue → Type 0 = IsRight (set bits g.out (value_of bits g)) in subst Q (same_gate at.place at.position h same at.at_order at.at_net) own
        | inr other ↦
            let less : at.place < k = omega (arith, at.last, other) in
            earlier at.place at.position h less at.at_order at.at_net
            (settled.right h (record { place = at.place; position = at.position; first = at.first; last = less; at_order = at.at_order; at_net = at.at_net }))
      ];
      free = λ n none.
          bit_set_other bits g.out (value_of bits g) n (λ same. none g (record { place = k; position = p; first = low; last = omega arith; at_order = here; at_net = gate }) (sym same))
          ∙ settled.free n (λ h at. none h (record { place = at.place; position = at.position; first = at.first; last = omega (arith, at.last); at_order = at.at_order; at_net = at.at_net }));
    }

turned : (order : List ℕ) (i p : ℕ) → slice_get (reverse order) i ≡ Some p → slice_get order (length order - 1 - i) ≡ Some p
turned order i p got =
    let less : i < length order = omega (arith, slice_get_within (reverse order) i p got, length-reverse order) in
    got_at order (length order - 1 - i) p 0 (omega arith) (sym (get_or-reverse order i 0 less) ∙ get_or_from_slice_get (reverse order) i p 0 got)

back : (order : List ℕ) (i p : ℕ) → i < length order → slice_get order i ≡ Some p → slice_get (reverse order) (length order - 1 - i) ≡ Some p
back order i p less got =
    let P : List ℕ → Type 0 = λ xs. slice_get xs i ≡ Some p in
    let Q : ℕ → Type 0 = λ n. slice_get (reverse order) (n - 1 - i) ≡ Some p in
    subst Q (length-reverse order) (turned (reverse order) i p (subst P (sym (reverse-reverse order)) got))

-- where the last t gates of an order by levels have their values, the first t gates of the order of elimination are settled
pub settled_last : (net : NetList) (order : List ℕ) (from t : ℕ) (start bits : List Bool) → from + t ≡ length order → AreSettledFrom net order from (length order) start bits
    → (variables : List ℕ) (p : Point) → start ≡ point_bits (nets net) variables p → IsSettled net variables (reverse order) t p bits
settled_last net order from t start bits count settled variables p is = record {
  long = settled.long;
  free = λ n less none. settled.free n (λ g at. none g (first g at)) ∙ (ap (λ bs. bit_of bs n) is ∙ point_bits_at (nets net) variables p n less);
  right = λ g among. settled.right g (later g among);
}
  where
    first : (g : GateValue) → IsAt net order from (length order) g → IsAmongFirst net (reverse order) t g
    first g at = (length order - 1 - at.place, at.position, omega (arith, at.first, at.last, count), back order at.place at.position at.last at.at_order, at.at_net)

    later : (g : GateValue) → IsAmongFirst net (reverse order) t g → IsAt net order from (length order) g
    later g among =
        let less = slice_get_within (reverse order) among.0 among.1 among.3 in
        let low = among.2 in
        record {
          place = length order - 1 - among.0;
          position = among.1;
          first = omega (arith, low, count);
          last = omega (arith, less, length-reverse order);
          at_order = turned order among.0 among.1 among.3;
          at_net = among.4;
        }

-- the place of an element that is left
pub got_drop : (xs : List ℕ) (from i p : ℕ) → slice_get (drop from xs) i ≡ Some p → slice_get xs (from + i) ≡ Some p
got_drop xs zero i p got = let e : 0 + i ≡ i = omega arith in let P : ℕ → Type 0 = λ m. slice_get xs m ≡ Some p in subst P (sym e) got
got_drop [] (suc from) i p got = absurd (cc)
got_drop (x ∷ xs) (suc from) i p got = let e : suc from + i ≡ suc (from + i) = omega arith in let P : ℕ → Type 0 = λ m. slice_get (x ∷ xs) m ≡ Some p in subst P (sym e) (got_drop xs from i p got)
