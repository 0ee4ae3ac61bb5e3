-- The net list of a plan is sound.
use Rattle.std.proofs.Common.{◌≡◌, ◌∙◌, ap, refl, subst, inl, inr, ℕ, suc, ◌<◌, ◌≤◌, ◌+◌, ◌-◌, ◌^◌, cond, List, length, map, Some, arith}
use Rattle.std.specs.Prelude.{◌==◌, nat_lt}
use Rattle.std.proofs.lemmas.Bool.Decides.{nat_tests}
use Rattle.std.proofs.lemmas.Bool.{cases_lt}
use Rattle.lists.specs.Lists.{Has, times}
use Rattle.lists.specs.laws.HasLaws.{all_from as all_has, times_append, times_get, times_some, Has_map, Has_left, Has_right}
use Rattle.lists.specs.laws.TestLaws.{chosen_equal, chosen_other, chosen_below}
use Rattle.graph_core.proofs.SharedLemmas.{no_cycle_by}
use Rattle.net_core.specs.GateValue.{GateValue}
use Rattle.net_core.specs.LatchValue.{LatchValue}
use Rattle.net_core.specs.NetList.{NetList, nets}
use Rattle.net_core.specs.Inside.{IsInside, GateIsInside, LatchIsInside}
use Rattle.net_core.specs.Sound.{IsSound, HasOneDriverEach, Needs, drivers}
use Rattle.make_nets.specs.Plan.{Plan}
use Rattle.make_nets.specs.PlanShape.{outs}
use Rattle.make_nets.specs.MadeNet.{made_net}
use Rattle.make_nets.specs.Makeable.{IsMakeable, driven_outside}
use Rattle.make_nets.proofs.LabelLemmas.{labels_long, label_named, label_found}

not_below : (m n x y : ℕ) → n ≤ m → cond (nat_lt m n) x y ≡ y
not_below m n x y more = grind (arith, nat_tests)

module _ (names : List (List ℕ)) (prefix : List ℕ) (inputs outputs : List ℕ) (latches : List LatchValue) (targets : List ℕ) (plan : Plan) (fits : IsMakeable names prefix inputs outputs latches targets plan) where
  abbrev net : NetList
  net = made_net names prefix inputs outputs latches plan

  abbrev outside : List ℕ
  outside = driven_outside inputs latches

  few_labels : length names + (plan.next - length names) ≤ 2 ^ 20
  few_labels = omega (arith, fits.few, fits.made.from)

  pub nets_are : nets net ≡ plan.next
  nets_are = omega (arith, labels_long names prefix (plan.next - length names) fits.names_fit fits.prefix_fits few_labels, fits.made.from)

  out_low : (g : GateValue) → Has plan.gates g → g.out < plan.next
  out_low g has =
      let found = Has_map (λ (h : GateValue). h.out) plan.gates g has in
      let low : plan.next ≤ g.out → ⊥ = λ high. omega (arith, times_get g.out (outs plan) found.0 found.1, fits.made.later g.out high) in
      omega (arith, low)

  input_low : (g : GateValue) (n : ℕ) → Has plan.gates g → Has g.inputs n → n < plan.next
  input_low g n has input = elim (fits.made.reads g has n input) [
    | inl source ↦ omega (arith, fits.driven_low n source, fits.made.from)
    | inr inner ↦ inner.1
  ]

  gate_inside : (g : GateValue) → Has plan.gates g → GateIsInside (nets net) g
  gate_inside g has = (omega (arith, out_low g has, nets_are), all_has (λ n. n < nets net) g.inputs (λ n input. omega (arith, input_low g n has input, nets_are)), (fits.made.fits g has).0, (fits.made.fits g has).1)

  latch_inside : (l : LatchValue) → Has latches l → LatchIsInside (nets net) l
  latch_inside l has = (omega (arith, fits.nexts_low l has, nets_are), omega (arith, fits.driven_low l.out (Has_right inputs (map (λ (x : LatchValue). x.out) latches) l.out (Has_map (λ (x : LatchValue). x.out) latches l has)), fits.made.from, nets_are))

  pub inside : IsInside net
  inside = record {
    few_nets = omega (arith, nets_are, fits.few);
    few_gates = omega (arith, fits.made.count, fits.few);
    inputs = all_has (λ n. n < nets net) inputs (λ n has. omega (arith, fits.driven_low n (Has_left inputs (map (λ (x : LatchValue). x.out) latches) n has), fits.made.from, nets_are));
    outputs = all_has (λ n. n < nets net) outputs (λ n has. omega (arith, fits.outputs_low n has, nets_are));
    gates = all_has (GateIsInside (nets net)) plan.gates gate_inside;
    latches = all_has (LatchIsInside (nets net)) latches latch_inside;
    names = λ n label got is. ((label_named names prefix (plan.next - length names) fits.names_fit fits.prefix_fits few_labels n label got).1, label_found names prefix (plan.next - length names) fits.names_fit fits.prefix_fits few_labels n label got);
  }

  no_source : (n : ℕ) → length names ≤ n → times n outside ≡ 0
  no_source n high =
      let none : 1 ≤ times n outside → ⊥ = λ some. omega (arith, fits.driven_low n (times_some n outside some), high) in
      omega (arith, none)

  drivers_are : (n : ℕ) → drivers net n ≡ times n outside + times n (outs plan)
  drivers_are n = times_append n outside (outs plan)

  one : HasOneDriverEach net
  one n less = elim (cases_lt n (length names)) [
    | inl low ↦ omega (arith, drivers_are n, fits.made.outside n low, fits.once n low)
    | inr high ↦ omega (arith, drivers_are n, no_source n high, fits.made.inner n high (omega (arith, less, nets_are)))
  ]

  not_driven : (g : GateValue) (n : ℕ) → Has plan.gates g → g.out ≡ n → Has outside n → ⊥
  not_driven g n has out source =
      let found = Has_map (λ (h : GateValue). h.out) plan.gates g has in
      let some : 1 ≤ times n (outs plan) = times_get n (outs plan) found.0 (found.1 ∙ ap Some out) in
      omega (arith, some, times_get n outside source.0 source.1, drivers_are n, one n (omega (arith, fits.driven_low n source, fits.made.from, nets_are)))

  rank : ℕ → ℕ
  rank n = cond (times n outside == 0) (cond (nat_lt n (length names)) (suc plan.next) (suc n)) 0

  rank_source : (n : ℕ) → Has outside n → rank n ≡ 0
  unfolding rank
  rank_source n source = chosen_other (times n outside) 0 (cond (nat_lt n (length names)) (suc plan.next) (suc n)) 0 (λ e. omega (arith, e, times_get n outside source.0 source.1))

  rank_high : (n : ℕ) → length names ≤ n → rank n ≡ suc n
  unfolding rank
  rank_high n high = chosen_equal (times n outside) 0 (cond (nat_lt n (length names)) (suc plan.next) (suc n)) 0 (no_source n high) ∙ not_below n (length names) (suc plan.next) (suc n) high

  rank_low : (n : ℕ) → n < length names → (Has outside n → ⊥) → rank n ≡ suc plan.next
  unfolding rank
  rank_low n low none =
      let free : 1 ≤ times n outside → ⊥ = λ some. none (times_some n outside some) in
      chosen_equal (times n outside) 0 (cond (nat_lt n (length names)) (suc plan.next) (suc n)) 0 (omega (arith, free)) ∙ chosen_below n (length names) (suc plan.next) (suc n) low

  out_high : (g : GateValue) (b : ℕ) → Has plan.gates g → length names ≤ b → b < plan.next → (length names ≤ g.out → b < g.out) → suc b < rank g.out
  out_high g b has high less falls = elim (cases_lt g.out (length names)) [
    | inl low ↦ omega (arith, less, rank_low g.out low (not_driven g g.out has refl))
    | inr up ↦ omega (arith, falls up, rank_high g.out up)
  ]

  out_some : (g : GateValue) → Has plan.gates g → 0 < rank g.out
  out_some g has = elim (cases_lt g.out (length names)) [
    | inl low ↦ omega (arith, rank_low g.out low (not_driven g g.out has refl))
    | inr up ↦ omega (arith, rank_high g.out up)
  ]

  falls : (a b : ℕ) → Needs net a b → rank b < rank a
  falls a b (g, has, out, input) =
      let P : ℕ → Type 0 = λ n. rank b < rank n in
      subst P out (elim (fits.made.reads g has b input) [
        | inl source ↦ omega (arith, rank_source b source, out_some g has)
        | inr inner ↦ omega (arith, rank_high b inner.0, out_high g b has inner.0 inner.1 inner.2)
      ])

  pub sound : IsSound net
  sound = record { inside = inside; one = one; no_cycle = λ cycle. no_cycle_by (Needs net) rank falls cycle.0 cycle.1 }
