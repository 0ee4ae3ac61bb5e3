-- From one cut to the next: bits that are settled where a gate's value is put in at its output are settled with the gate.
use Rattle.std.proofs.Common.{◌≡◌, ◌≢◌, ◌⊎◌, ℕ, suc, ◌<◌, ◌≤◌, ◌+◌, ◌-◌, Bool, cond, List, Some, length, reverse, inl, inr, refl, sym, ap, subst, ◌∙◌, arith}
use Rattle.std.specs.Prelude.{slice_get, ◌==◌}
use Rattle.std.specs.Int.{bit_at}
use Rattle.std.proofs.lemmas.Bool.{eq-eqb, ne_eqb}
use Rattle.std.proofs.lemmas.Option.{slice_get_within}
use Rattle.lists.specs.Lists.{Has}
use Rattle.lists.specs.laws.HasLaws.{All_has}
use Rattle.lists.specs.laws.NumberLaws.{nat_eq_or}
use Rattle.lists.specs.laws.ReadLaws.{got_reversed}
use Rattle.net_core.specs.GateValue.{GateValue}
use Rattle.net_core.specs.NetList.{NetList, nets}
use Rattle.net_core.specs.Sound.{IsSound}
use Rattle.net_core.specs.Level.{Levels, AreLevels}
use Rattle.net_core.specs.Order.{rank_at, IsOrder}
use Rattle.net_core.specs.Value.{bit_of, IsRight}
use Rattle.net_core.proofs.DriverLemmas.{gates_apart, gate_inside}
use Rattle.net_core.proofs.EvalLemmas.{inputs_below}
use Rattle.net_core.proofs.OrderLemmas.{before_all}
use Rattle.poly_mixed.specs.Cofactor.{at_bit}
use Rattle.poly_mixed.specs.Polynomial.{Point}
use Rattle.poly_mixed.specs.Table.{index}
use Rattle.stage_model.specs.Variables.{rank_in, point_bit}
use Rattle.stage_model.specs.Cut.{IsAmongFirst, IsSettled}
use Rattle.net_core.proofs.EvalLemmas.{not_self, not_later}
use Rattle.net_core.proofs.SharedLemmas.{all_levels}
use Rattle.stage_model.proofs.SharedLemmas.{index_same, rank_apart}

-- the bit of the gate's table that the point's bits of its inputs choose
abbrev pub gate_bit : List ℕ → GateValue → Point → Bool
gate_bit variables gate p = bit_at gate.table (index (point_bit variables p) gate.inputs) == 1

-- the point with that bit at the gate's output
abbrev pub with_gate : List ℕ → GateValue → Point → Point
with_gate variables gate p = at_bit p (rank_in variables gate.out) (gate_bit variables gate p)

module _ (net : NetList) (sound : IsSound net) (levels : Levels) (are : AreLevels net levels) (order : List ℕ) (is : IsOrder net levels (reverse order)) where
  -- gates that are eliminated before a gate do not stand below it, and drive other nets
  pub earlier : (t p : ℕ) (g h : GateValue) → slice_get order t ≡ Some p → slice_get net.gates p ≡ Some g → IsAmongFirst net order t h → (rank_at levels g.out ≤ rank_at levels h.out) × (g.out ≢ h.out)
  earlier t p g h at gate (i, q, less, at_i, gate_h) =
      let within : t < length order = slice_get_within order t p at in
      let d : ℕ = t - i - 1 in
      let place : length order - 1 - t + suc d ≡ length order - 1 - i = omega arith in
      let last : slice_get (reverse order) (length order - 1 - t + suc d) ≡ Some q = ap (λ k. slice_get (reverse order) k) place ∙ got_reversed order i q at_i in
      let before = before_all net levels (reverse order) is d (length order - 1 - t) p q g h (got_reversed order t p at) last gate gate_h in (
        not_later (rank_at levels g.out) (rank_at levels h.out) p q before,
        λ same.
            let p_q : p ≡ q = gates_apart net p q g h sound.inside sound.one gate gate_h same in
            not_self (rank_at levels g.out) (rank_at levels h.out) p q (ap (rank_at levels) same) p_q before,
      )

module _ (net : NetList) (sound : IsSound net) (variables : List ℕ) (stands : (n : ℕ) → n < nets net → Has variables n) where
  abbrev moved : Point → GateValue → Point
  moved p g = with_gate variables g p

  at_other : (p : Point) (g : GateValue) (n : ℕ) → n < nets net → g.out < nets net → n ≢ g.out → point_bit variables (moved p g) n ≡ point_bit variables p n
  at_other p g n less out apart = ap (λ b. cond b (gate_bit variables g p) (point_bit variables p n)) (ne_eqb (rank_in variables n) (rank_in variables g.out) (rank_apart variables n g.out (stands n less) (stands g.out out) apart))

  at_out : (p : Point) (g : GateValue) → point_bit variables (moved p g) g.out ≡ gate_bit variables g p
  at_out p g = ap (λ b. cond b (gate_bit variables g p) (point_bit variables p g.out)) (eq-eqb (rank_in variables g.out) (rank_in variables g.out) refl)

  module _ (levels : Levels) (are : AreLevels net levels) (order : List ℕ) (is : IsOrder net levels (reverse order)) (t position : ℕ) (g : GateValue) (at : slice_get order t ≡ Some position) (gate : slice_get net.gates position ≡ Some g) where
    has_gate : Has net.gates g
    has_gate = (position, gate)

    out_inside : g.out < nets net
    out_inside = (gate_inside net g sound.inside has_gate).0

    input_inside : (n : ℕ) → Has g.inputs n → n < nets net
    input_inside n has = All_has (λ m. m < nets net) g.inputs n (gate_inside net g sound.inside has_gate).1 has

    input_below : (n : ℕ) → Has g.inputs n → rank_at levels n < rank_at levels g.out
    input_below n has = inputs_below net levels (all_levels net levels sound are) g has_gate n has

    out_free : (h : GateValue) → IsAmongFirst net order t h → h.out ≢ g.out
    out_free h first same = (earlier net sound levels are order is t position g h at gate first).1 (sym same)

    input_free : (n : ℕ) → Has g.inputs n → (h : GateValue) → IsAmongFirst net order t h → h.out ≢ n
    input_free n has h first same =
        let below = input_below n has in
        let above = (earlier net sound levels are order is t position g h at gate first).0 in
        let e : rank_at levels h.out ≡ rank_at levels n = ap (rank_at levels) same in
        absurd (omega arith)

    input_apart : (n : ℕ) → Has g.inputs n → n ≢ g.out
    input_apart n has same =
        let below = input_below n has in
        let e : rank_at levels n ≡ rank_at levels g.out = ap (rank_at levels) same in
        absurd (omega arith)

    here : IsAmongFirst net order (suc t) g
    here = (t, position, omega arith, at, gate)

    later : (h : GateValue) → IsAmongFirst net order t h → IsAmongFirst net order (suc t) h
    later h (i, q, less, at_i, gate_h) = (i, q, omega arith, at_i, gate_h)

    among : (h : GateValue) → IsAmongFirst net order (suc t) h → IsAmongFirst net order t h ⊎ (h ≡ g)
    among h (i, q, less, at_i, gate_h) =
        elim (nat_eq_or i t) [
          | inl same ↦
              let both : Some q ≡ Some position = sym at_i ∙ (ap (λ k. slice_get order k) same ∙ at) in
              let p_q : q ≡ position = cc in
              let gates : Some h ≡ Some g = sym gate_h ∙ (ap (λ k. slice_get net.gates k) p_q ∙ gate) in
              inr (cc)
          | inr other ↦ inl (i, q, omega arith, at_i, gate_h)
        ]

    -- bits that are settled where the gate's value is put in at its output are settled with the gate
    pub step : (p : Point) (bits : List Bool) → IsSettled net variables order t (moved p g) bits → IsSettled net variables order (suc t) p bits
    step p bits settled = record {
      long = settled.long;
      free = λ n less none.
          let apart : n ≢ g.out = λ same. none g here (sym same) in
          settled.free n less (λ h first. none h (later h first)) ∙ at_other p g n less out_inside apart;
      right = λ h first. elim (among h first) [
        | inl before ↦ settled.right h before
        | inr same ↦ let P : GateValue → Type 0 = λ k. IsRight bits k in subst P (sym same) own
      ];
    }
      where
        input_bit : (n : ℕ) → Has g.inputs n → bit_of bits n ≡ point_bit variables p n
        input_bit n has = settled.free n (input_inside n has) (input_free n has) ∙ at_other p g n (input_inside n has) out_inside (input_apart n has)

        own : IsRight bits g
        own = settled.free g.out out_inside out_free ∙ (at_out p g ∙ ap (λ i. bit_at g.table i == 1) (sym (index_same bits (point_bit variables p) g.inputs input_bit)))
