-- How often nets are driven.
use Rattle.std.proofs.Common.{◌≡◌, ◌≢◌, ◌⊎◌, ◌∙◌, sym, refl, inl, inr, ℕ, ◌<◌, ◌≤◌, ◌+◌, List, length, take, get_or, min, get_or-set_other, get_or-set_same, Some, map, arith}
use Rattle.std.proofs.Math.ListN.{set}
use Rattle.std.specs.Prelude.{All, slice_get}
use Rattle.std.proofs.lemmas.Bool.Decides.{eqb_tells}
use Rattle.std.proofs.lemmas.List.{get_or_default}
use Rattle.std.proofs.lemmas.List.Elements.{All-weaker}
use Rattle.std.proofs.lemmas.Option.{slice_get-map}
use Rattle.lists.specs.Lists.{Has, times}
use Rattle.lists.specs.laws.HasLaws.{All_has, times_append, times_get, times_two, times_some, times_more, Has_map, Has_cases}
use Rattle.lists.specs.laws.NumberLaws.{even}
use Rattle.lists.specs.laws.ReadLaws.{from_map}
use Rattle.lists.specs.laws.TestLaws.{one_here, none_here}
use Rattle.net_core.specs.GateValue.{GateValue}
use Rattle.net_core.specs.NetList.{NetList, nets}
use Rattle.net_core.specs.Inside.{IsInside, GateIsInside}
use Rattle.net_core.specs.Sound.{sources, driven, HasOneDriverEach}

-- one more driver was counted
pub counts_step : (counts xs : List ℕ) (i net bound : ℕ) → i < length xs → net ≡ get_or xs i 0 → length counts ≡ bound → net < bound → ((n : ℕ) → n < bound → get_or counts n 0 ≡ min 2 (times n (take i xs))) → (n : ℕ) → n < bound → get_or (set counts net (min 2 (get_or counts net 0 + 1))) n 0 ≡ min 2 (times n (take (i + 1) xs))
counts_step counts xs i net bound less is long within each n below =
    elim (eqb_tells n net) [
      | inl w ↦ let within' : net < length counts = omega arith in
          let here : get_or (set counts net (min 2 (get_or counts net 0 + 1))) net 0 ≡ min 2 (get_or counts net 0 + 1) = get_or-set_same counts net (min 2 (get_or counts net 0 + 1)) 0 within' in
          let same : n ≡ net = w.1 in
          rw same (omega (arith, here, each net within, times_more net xs i less, one_here net (get_or xs i 0) (sym is)))
      | inr w ↦ let other : n ≢ net = w.1 in
          let there : get_or (set counts net (min 2 (get_or counts net 0 + 1))) n 0 ≡ get_or counts n 0 = get_or-set_other counts net n (min 2 (get_or counts net 0 + 1)) 0 other in
          omega (arith, there, each n below, times_more n xs i less, none_here n (get_or xs i 0) (λ e. w.1 (sym e ∙ sym is)))
    ]

pub counts_read : (counts xs : List ℕ) (i net bound was : ℕ) → was ≡ get_or counts net was → i < length xs → net ≡ get_or xs i 0 → length counts ≡ bound → net < bound → ((n : ℕ) → n < bound → get_or counts n 0 ≡ min 2 (times n (take i xs))) → (n : ℕ) → n < bound → get_or (set counts net (min 2 (was + 1))) n 0 ≡ min 2 (times n (take (i + 1) xs))
counts_read counts xs i net bound was read less is long within each n below =
    let within' : net < length counts = omega arith in
    let same : was ≡ get_or counts net 0 = read ∙ get_or_default counts net was 0 within' in
    rw same (counts_step counts xs i net bound less is long within each n below)

pub gate_inside : (net : NetList) (g : GateValue) → IsInside net → Has net.gates g → GateIsInside (nets net) g
gate_inside net g inside has = All_has (GateIsInside (nets net)) net.gates g inside.gates has

pub source_no_gate : (net : NetList) (n : ℕ) (g : GateValue) → IsInside net → HasOneDriverEach net → Has (sources net) n → Has net.gates g → g.out ≡ n → ⊥
source_no_gate net n g inside one source gate out =
    let within : n < nets net = rw (← out) ((gate_inside net g inside gate).0) in
    let outs : Has (map (λ (h : GateValue). h.out) net.gates) n = rw (← out) (Has_map (λ (h : GateValue). h.out) net.gates g gate) in
    omega (arith, one n within, times_append n (sources net) (map (λ (h : GateValue). h.out) net.gates), times_get n (sources net) source.0 source.1, times_get n (map (λ (h : GateValue). h.out) net.gates) outs.0 outs.1)

-- gates drive nets that exist
abbrev pub DriveNets : NetList → Type 0
DriveNets net = All (λ (g : GateValue). g.out < nets net) net.gates

pub drives_inside : (net : NetList) → IsInside net → DriveNets net
drives_inside net inside = All-weaker (GateIsInside (nets net)) (λ g. g.out < nets net) (λ g h. h.0) net.gates inside.gates

-- two gates drive two nets
pub drivers_apart : (net : NetList) (p q : ℕ) (g h : GateValue) → DriveNets net → HasOneDriverEach net → slice_get net.gates p ≡ Some g → slice_get net.gates q ≡ Some h → g.out ≡ h.out → p ≡ q
drivers_apart net p q g h drive one first second same =
    let outs : List ℕ = map (λ (h : GateValue). h.out) net.gates in
    let within : g.out < nets net = All_has (λ (g : GateValue). g.out < nets net) net.gates g drive (p, first) in
    let at_p : slice_get outs p ≡ Some g.out = slice_get-map (λ (h : GateValue). h.out) net.gates p ∙ rw first refl in
    let at_q : slice_get outs q ≡ Some g.out = slice_get-map (λ (h : GateValue). h.out) net.gates q ∙ rw (second, same) refl in
    let few : times g.out outs ≤ 1 = omega (arith, one g.out within, times_append g.out (sources net) outs) in
    even p q (λ less. let two : 2 ≤ times g.out outs = times_two g.out outs p q at_p at_q less in omega arith) (λ less. let two : 2 ≤ times g.out outs = times_two g.out outs q p at_q at_p less in omega arith)

pub gates_apart : (net : NetList) (p q : ℕ) (g h : GateValue) → IsInside net → HasOneDriverEach net → slice_get net.gates p ≡ Some g → slice_get net.gates q ≡ Some h → g.out ≡ h.out → p ≡ q
gates_apart net p q g h inside one first second same = drivers_apart net p q g h (drives_inside net inside) one first second same

pub driver_of : (net : NetList) (n : ℕ) → HasOneDriverEach net → n < nets net → Has (sources net) n ⊎ ((g : GateValue) × Has net.gates g × (g.out ≡ n))
driver_of net n one less =
    elim (Has_cases (sources net) (map (λ (h : GateValue). h.out) net.gates) n (times_some n (driven net) (omega (arith, one n less)))) [
      | inl w ↦ inl w
      | inr w ↦ let found = from_map (λ (h : GateValue). h.out) net.gates w.0 n w.1 in inr (found.0, (w.0, found.1), found.2)
    ]
