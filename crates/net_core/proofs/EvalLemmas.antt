-- One gate after another gets its value.
use Rattle.std.proofs.Common.{◌≡◌, ◌≢◌, ◌∙◌, ap, sym, refl, inl, inr, subst, ℕ, zero, suc, ◌<◌, ◌≤◌, ◌+◌, ◌-◌, Bool, false, List, [], ◌∷◌, length, get_or, None, Some, arith, length-set, ◌^◌, map, max}
use Rattle.std.specs.Prelude.{slice_get, unwrap_or, option_and_then, ◌==◌}
use Rattle.net_core.specs.declared.latch.Latch.{Latch}
use Rattle.std.specs.Int.{bit_at}
use Rattle.std.proofs.Math.ListN.{set}
use Rattle.std.proofs.lemmas.Option.{slice_get_within, get_or_from_slice_get}
use Rattle.std.proofs.Math.Pow.{pow_mono}
use Rattle.lists.specs.Lists.{Has}
use Rattle.lists.specs.laws.HasLaws.{Has_cases, All_has, times_two, times_append, Has_left}
use Rattle.lists.specs.laws.NumberLaws.{nat_eq_or}
use Rattle.lists.specs.laws.ReadLaws.{got_at, get_below, get_set_same, get_set_other}
use Rattle.net_core.specs.GateValue.{GateValue}
use Rattle.net_core.specs.NetList.{NetList, nets}
use Rattle.net_core.specs.Inside.{IsInside}
use Rattle.net_core.specs.Sound.{HasOneDriverEach, sources}
use Rattle.net_core.specs.Level.{Levels, level_at, level_from, level_over}
use Rattle.net_core.specs.Levelled.{AllHaveLevels}
use Rattle.net_core.specs.Order.{rank_at, IsBefore, IsOrder}
use Rattle.net_core.specs.Value.{bit_of, index_of, IsRight, IsConsistent, HasValues}
use Rattle.net_core.proofs.RightGates.{AreRight}
use Rattle.net_core.proofs.DriverLemmas.{driver_of, gate_inside, gates_apart, source_no_gate}
use Rattle.net_core.proofs.LevelLemmas.{level_within, level_from_above}
use Rattle.net_core.proofs.OrderLemmas.{before_all}

pub bit_set_same : (bits : List Bool) (i : ℕ) (v : Bool) → i < length bits → bit_of (set bits i v) i ≡ v
bit_set_same bits i v less = let at = get_below bits i less in ap (λ o. unwrap_or o false) (get_set_same bits i at.0 v at.1)

pub bit_set_other : (bits : List Bool) (i : ℕ) (v : Bool) (n : ℕ) → n ≢ i → bit_of (set bits i v) n ≡ bit_of bits n
bit_set_other [] i v n other = refl
bit_set_other (y ∷ ys) zero v zero other = absurd (other refl)
bit_set_other (y ∷ ys) zero v (suc n) other = refl
bit_set_other (y ∷ ys) (suc i) v zero other = refl
bit_set_other (y ∷ ys) (suc i) v (suc n) other = bit_set_other ys i v n (λ e. other (omega arith))

pub index_set : (bits : List Bool) (i : ℕ) (v : Bool) (ns : List ℕ) → (Has ns i → ⊥) → index_of (set bits i v) ns ≡ index_of bits ns
index_set bits i v [] not = refl
index_set bits i v (n ∷ ns) not =
    let other : n ≢ i = λ same. not (0, ap Some same) in
    rw (bit_set_other bits i v n other, index_set bits i v ns (λ has. not (suc has.0, has.1))) refl

-- a gate's inputs stand below it
pub inputs_below : (net : NetList) (levels : Levels) → AllHaveLevels net levels → (h : GateValue) → Has net.gates h → (n : ℕ) → Has h.inputs n → rank_at levels n < rank_at levels h.out
inputs_below net levels all h has n input =
    let over : level_at levels h.out ≡ level_over levels h.inputs = all.0.gates h has in
    elim (level_at levels h.out) as (λ o. level_at levels h.out ≡ o → rank_at levels n < rank_at levels h.out) [
      | None ↦ λ e. absurd (all.1 h has e)
      | Some v ↦ λ e.
          let above = (level_from_above levels v 1 h.inputs (sym over ∙ e)).1 input.0 n input.1 in
          let at_n : rank_at levels n ≡ above.0 = ap (λ o. unwrap_or o 0) above.1 in
          let at_h : rank_at levels h.out ≡ v = ap (λ o. unwrap_or o 0) e in
          omega (arith, above.2)
    ] refl

abbrev pub value_of : List Bool → GateValue → Bool
value_of bits g = bit_at g.table (index_of bits g.inputs) == 1

pub not_later : (a b q p : ℕ) → IsBefore a q b p → a ≤ b
not_later a b q p before = grind arith

pub not_self : (a b q p : ℕ) → a ≡ b → q ≡ p → IsBefore a q b p → ⊥
not_self a b q p same place before = grind arith

-- the next gate of the order gets its value, and the others keep theirs
pub right_step : (net : NetList) (levels : Levels) (order : List ℕ) (k p : ℕ) (g : GateValue) (bits new : List Bool) → IsInside net → HasOneDriverEach net → AllHaveLevels net levels → IsOrder net levels order → AreRight net order k bits → slice_get order k ≡ Some p → slice_get net.gates p ≡ Some g → new ≡ set bits g.out (value_of bits g) → AreRight net order (k + 1) new
right_step net levels order k p g bits new inside one all is right here gate made =
    let P : List Bool → Type 0 = AreRight net order (k + 1) in
    subst P (sym made) (record {
      long = length-set bits g.out (value_of bits g) ∙ right.long;
      right = λ j q h less at got. elim (nat_eq_or j k) [
        | inl same ↦
            let at' : slice_get order k ≡ Some q = rw same at at in
            let place : p ≡ q = cc in
            let got' : slice_get net.gates p ≡ Some h = rw (← place) at got in
            let whole : g ≡ h = cc in
            let free : Has g.inputs g.out → ⊥ = λ has. omega (arith, inputs_below net levels all g (p, gate) g.out has) in
            let own : IsRight (set bits g.out (value_of bits g)) g = bit_set_same bits g.out (value_of bits g) within ∙ sym (ap (λ i. bit_at g.table i == 1) (index_set bits g.out (value_of bits g) g.inputs free)) in
            let Q : GateValue → Type 0 = IsRight (set bits g.out (value_of bits g)) in
            subst Q whole own
        | inr other ↦
            let j_less : j < k = omega arith in
            let place : j + suc (k - j - 1) ≡ k = omega arith in
            let here' : slice_get order (j + suc (k - j - 1)) ≡ Some p = rw place here in
            let before = before_all net levels order is (k - j - 1) j q p h g at here' got gate in
            let outs : h.out ≢ g.out = λ same. not_self (rank_at levels h.out) (rank_at levels g.out) q p (ap (rank_at levels) same) (gates_apart net q p h g inside one got gate same) before in
            let free : Has h.inputs g.out → ⊥ = λ has. omega (arith, inputs_below net levels all h (q, got) g.out has, not_later (rank_at levels h.out) (rank_at levels g.out) q p before) in
            bit_set_other bits g.out (value_of bits g) h.out outs ∙ right.right j q h j_less at got ∙ sym (ap (λ i. bit_at h.table i == 1) (index_set bits g.out (value_of bits g) h.inputs free))
      ];
    })
  where
    within : g.out < length bits
    within = omega (arith, (gate_inside net g inside (p, gate)).0, right.long)

-- the primary inputs keep their values
pub values_step : (net : NetList) (values bits : List Bool) (v : Bool) (g : GateValue) → IsInside net → HasOneDriverEach net → HasValues net values bits → Has net.gates g → HasValues net values (set bits g.out v)
values_step net values bits v g inside one has gate = λ i n w input value.
    let other : n ≢ g.out = λ same. source_no_gate net n g inside one (Has_left net.inputs _ n (i, input)) gate (sym same) in
    get_set_other bits g.out v n w other (has i n w input value)

-- the order holds each gate
pub all_right : (net : NetList) (levels : Levels) (order : List ℕ) (k : ℕ) (bits : List Bool) → IsOrder net levels order → AreRight net order k bits → length order ≤ k → IsConsistent net bits
all_right net levels order k bits is right past =
    record {
      long = right.long;
      gates = λ g has. let at = is.each has.0 g has.1 in right.right at.0 has.0 g (omega (arith, slice_get_within order at.0 has.0 at.1)) at.1 has.1;
    }

pub small_index : (n i : ℕ) → n ≤ 6 → i < 2 ^ n → i < 64
small_index n i few less = omega (arith, pow_mono {i = n} {j = 6} few)

-- one more input has its value
pub input_step : (net : NetList) (values bits : List Bool) (i n : ℕ) → IsInside net → HasOneDriverEach net → length bits ≡ nets net → i < length net.inputs → n ≡ get_or net.inputs i 0 → ((k : ℕ) → k < i → (m : ℕ) (v : Bool) → slice_get net.inputs k ≡ Some m → slice_get values k ≡ Some v → slice_get bits m ≡ Some v) → (k : ℕ) → k < i + 1 → (m : ℕ) (v : Bool) → slice_get net.inputs k ≡ Some m → slice_get values k ≡ Some v → slice_get (set bits n (get_or values i false)) m ≡ Some v
input_step net values bits i n inside one long here is each k less m v input value =
    let got : slice_get net.inputs i ≡ Some n = got_at net.inputs i n 0 here (sym is) in
    let within : n < nets net = All_has (λ n. n < nets net) net.inputs n inside.inputs (i, got) in
    elim (nat_eq_or k i) [
      | inl same ↦
          let input' : slice_get net.inputs i ≡ Some m = rw same at input in
          let at : n ≡ m = cc in
          let value' : get_or values i false ≡ v = get_or_from_slice_get values i v false (rw same at value) in
          let was = get_below bits n (omega arith) in
          rw (← at, ← value') (get_set_same bits n was.0 (get_or values i false) was.1)
      | inr other ↦ get_set_other bits n (get_or values i false) m v (λ e. twice e (omega arith)) (each k (omega arith) m v input value)
    ]
  where
    twice : m ≡ n → k < i → ⊥
    twice e lower =
        let got : slice_get net.inputs i ≡ Some n = got_at net.inputs i n 0 here (sym is) in
        let within : n < nets net = All_has (λ n. n < nets net) net.inputs n inside.inputs (i, got) in
        let first : slice_get net.inputs k ≡ Some n = input ∙ ap Some e in
        omega (arith, one n within, times_two n net.inputs k i first got lower, times_append n net.inputs (map (λ l. l.out) net.latches), times_append n (sources net) (map (λ g. g.out) net.gates))

pub over_agree : (a b : Levels) (m : ℕ) (ns : List ℕ) → ((k n : ℕ) → slice_get ns k ≡ Some n → level_at b n ≡ level_at a n) → level_from b m ns ≡ level_from a m ns
over_agree a b m [] same = refl
over_agree a b m (n ∷ ns) same =
    rw (same 0 n refl)
    (elim (level_at a n) as (λ o. option_and_then (λ l. level_from b (max m (l + 1)) ns) o ≡ option_and_then (λ l. level_from a (max m (l + 1)) ns) o) [
      | None ↦ refl
      | Some l ↦ over_agree a b (max m (l + 1)) ns (λ k n' got. same (suc k) n' got)
    ])

pub index_agree : (v w : List Bool) (ns : List ℕ) → ((k n : ℕ) → slice_get ns k ≡ Some n → bit_of v n ≡ bit_of w n) → index_of v ns ≡ index_of w ns
index_agree v w [] same = refl
index_agree v w (n ∷ ns) same = rw (same 0 n refl, index_agree v w ns (λ k m got. same (suc k) m got)) refl

bits_agree : (net : NetList) (levels : Levels) (values v w : List Bool) → HasOneDriverEach net → AllHaveLevels net levels → net.latches ≡ [] → length values ≡ length net.inputs → IsConsistent net v → IsConsistent net w → HasValues net values v → HasValues net values w → (fuel n l : ℕ) → l < fuel → level_at levels n ≡ Some l → bit_of v n ≡ bit_of w n
bits_agree net levels values v w one all none long cv cw hv hw zero n l less is = absurd (omega arith)
bits_agree net levels values v w one all none long cv cw hv hw (suc fuel) n l less is =
    let below : n < nets net = omega (arith, level_within levels n l is, all.0.long) in
    elim (driver_of net n one below) [
      | inl source ↦ elim (Has_cases net.inputs (map (λ l. l.out) net.latches) n source) [
        | inl input ↦
            let value = get_below values input.0 (omega (arith, slice_get_within net.inputs input.0 n input.1)) in
            ap (λ o. unwrap_or o false) (hv input.0 n value.0 input.1 value.1 ∙ sym (hw input.0 n value.0 input.1 value.1))
        | inr latch ↦ absurd (no_latch latch)
      ]
      | inr found ↦
          let g : GateValue = found.0 in
          let over : level_over levels g.inputs ≡ Some l = sym (all.0.gates g found.1) ∙ (ap (level_at levels) found.2 ∙ is) in
          let above = (level_from_above levels l 1 g.inputs over).1 in
          let same : index_of v g.inputs ≡ index_of w g.inputs = index_agree v w g.inputs (λ k m got. let low = above k m got in bits_agree net levels values v w one all none long cv cw hv hw fuel m low.0 (omega (arith, low.2)) low.1) in
          sym (ap (bit_of v) found.2) ∙ (cv.gates g found.1 ∙ (ap (λ i. bit_at g.table i == 1) same ∙ (sym (cw.gates g found.1) ∙ ap (bit_of w) found.2)))
    ]
  where
    no_latch : Has (map (λ l. l.out) net.latches) n → ⊥
    no_latch has =
        let got : slice_get (map (λ (l : Latch). l.out) net.latches) has.0 ≡ Some n = has.1 in
        let got' = rw none at got in
        absurd (cc)

pub same_lists : (v w : List Bool) → length v ≡ length w → ((n : ℕ) → n < length v → bit_of v n ≡ bit_of w n) → v ≡ w
same_lists [] [] long same = refl
same_lists [] (y ∷ ys) long same = absurd (omega arith)
same_lists (x ∷ xs) [] long same = absurd (omega arith)
same_lists (x ∷ xs) (y ∷ ys) long same =
    let head : x ≡ y = same 0 (omega arith) in
    let tail : xs ≡ ys = same_lists xs ys (omega arith) (λ n less. same (suc n) (omega arith)) in
    rw (head, tail) refl

pub some_level : (net : NetList) (levels : Levels) → HasOneDriverEach net → AllHaveLevels net levels → (n : ℕ) → n < nets net → (l : ℕ) × (level_at levels n ≡ Some l)
some_level net levels one all n below =
    elim (driver_of net n one below) [
      | inl source ↦ (0, all.0.sources n source)
      | inr found ↦ elim (level_at levels n) as (λ o. level_at levels n ≡ o → (l : ℕ) × (level_at levels n ≡ Some l)) [
        | None ↦ λ e. absurd (all.1 found.0 found.1 (ap (level_at levels) found.2 ∙ e))
        | Some l ↦ λ e. (l, e)
      ] refl
    ]

-- there is no other consistent list
pub one_valuation : (net : NetList) (levels : Levels) (values v w : List Bool) → HasOneDriverEach net → AllHaveLevels net levels → net.latches ≡ [] → length values ≡ length net.inputs → IsConsistent net v → IsConsistent net w → HasValues net values v → HasValues net values w → v ≡ w
one_valuation net levels values v w one all none long cv cw hv hw =
    same_lists v w (cv.long ∙ sym cw.long) (λ n less.
    let l = some_level net levels one all n (omega (arith, cv.long)) in
    bits_agree net levels values v w one all none long cv cw hv hw (suc l.0) n l.0 (omega arith) l.1)
