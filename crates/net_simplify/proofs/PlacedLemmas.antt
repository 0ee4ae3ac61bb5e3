-- The gates of a sound net in their order: each after the gates that drive its inputs.
use Rattle.std.proofs.Common.{◌≡◌, ◌≢◌, ◌⊎◌, ◌∙◌, ap, sym, refl, inl, inr, subst, ℕ, zero, suc, ◌<◌, ◌≤◌, ◌+◌, ◌-◌, List, [], ◌∷◌, length, Some, arith}
use Rattle.std.specs.Prelude.{slice_get}
use Rattle.std.proofs.lemmas.Option.{slice_get_within}
use Rattle.lists.specs.Lists.{Has}
use Rattle.lists.specs.laws.HasLaws.{All_has}
use Rattle.lists.specs.laws.NumberLaws.{nat_eq_or}
use Rattle.lists.specs.laws.ReadLaws.{get_below}
use Rattle.net_core.specs.GateValue.{GateValue}
use Rattle.net_core.specs.Level.{Levels, AreLevels}
use Rattle.net_core.specs.Levelled.{AllHaveLevels}
use Rattle.net_core.specs.NetList.{NetList, nets}
use Rattle.net_core.specs.Order.{IsOrder, IsBefore, rank_at}
use Rattle.net_core.specs.Sound.{IsSound, sources}
use Rattle.net_core.proofs.DriverLemmas.{driver_of, gate_inside, gates_apart, source_no_gate}
use Rattle.net_core.proofs.EvalLemmas.{inputs_below, not_later}
use Rattle.net_core.proofs.ExistLemmas.{sound_levels}
use Rattle.net_core.proofs.LawLemmas.{levels_only, order_only}
use Rattle.net_core.proofs.OrderLemmas.{before_all}
use Rattle.net_simplify.specs.Uses.{AreInOrder}
use Rattle.net_simplify.specs.private.Underway.{ArePlaced, IsEarlier}

-- the place in the order of a gate of the list, and of the list of a gate in the order
place_of : (net : NetList) (gates : List GateValue) (placed : AreInOrder net gates) (levels : Levels) → IsOrder net levels placed.order → (p : ℕ) (g : GateValue) → slice_get net.gates p ≡ Some g → (i : ℕ) × (slice_get placed.order i ≡ Some p) × (slice_get gates i ≡ Some g)
place_of net gates placed levels is p g got =
    let at = is.each p g got in
    (at.0, at.1, placed.each at.0 p at.1 ∙ got)

position_of : (net : NetList) (gates : List GateValue) (placed : AreInOrder net gates) (i : ℕ) (g : GateValue) → slice_get gates i ≡ Some g → (p : ℕ) × (slice_get placed.order i ≡ Some p) × (slice_get net.gates p ≡ Some g)
position_of net gates placed i g got =
    let at = get_below placed.order i (omega (arith, slice_get_within gates i g got, placed.long)) in
    (at.0, at.1, sym (placed.each i at.0 at.1) ∙ got)

order_apart : (net : NetList) (levels : Levels) (order : List ℕ) → IsOrder net levels order → AllHaveLevels net levels → (i j p : ℕ) (g : GateValue) → slice_get order i ≡ Some p → slice_get order j ≡ Some p → slice_get net.gates p ≡ Some g → i < j → ⊥
order_apart net levels order is all i j p g first second got less =
    let there : i + suc (j - i - 1) ≡ j = omega arith in
    let before = before_all net levels order is (j - i - 1) i p p g g first (rw there second) got got in
    irreflexive (rank_at levels g.out) p before
  where
    irreflexive : (a q : ℕ) → IsBefore a q a q → ⊥
    irreflexive a q before = grind arith

earlier : (net : NetList) (gates : List GateValue) (placed : AreInOrder net gates) (levels : Levels) → IsSound net → AllHaveLevels net levels → IsOrder net levels placed.order → (i : ℕ) (g : GateValue) → slice_get gates i ≡ Some g → (n : ℕ) → Has g.inputs n → IsEarlier net gates i n
earlier net gates placed levels sound all is i g got n input =
    let at = position_of net gates placed i g got in
    let here : Has net.gates g = (at.0, at.2) in
    let within : n < nets net = All_has (λ m. m < nets net) g.inputs n (gate_inside net g sound.inside here).1 input in
    elim (driver_of net n sound.one within) [
      | inl source ↦ inl source
      | inr found ↦
          let low : rank_at levels found.0.out < rank_at levels g.out = omega (arith, ap (rank_at levels) found.2, inputs_below net levels all g here n input) in
          let there = place_of net gates placed levels is found.1.0 found.0 found.1.1 in
          inr (there.0, found.0, below at.0 found.1.0 found.0 there.0 at.1 at.2 there.1 found.1.1 low, there.2, found.2)
    ]
  where
    below : (p q : ℕ) (h : GateValue) (j : ℕ) → slice_get placed.order i ≡ Some p → slice_get net.gates p ≡ Some g → slice_get placed.order j ≡ Some q → slice_get net.gates q ≡ Some h → rank_at levels h.out < rank_at levels g.out → j < i
    below p q h j first gate second other low =
        elim (nat_eq_or j i) [
          | inl same ↦
              let second' : slice_get placed.order i ≡ Some q = rw (← same) second in
              let e : p ≡ q = cc in
              let other' : slice_get net.gates p ≡ Some h = rw e other in
              let e' : g ≡ h = cc in
              absurd (omega (arith, low, ap (λ (x : GateValue). rank_at levels x.out) e'))
          | inr apart ↦ elim (nat_eq_or (j - i) 0) [
            | inl under ↦ omega (arith, apart, under)
            | inr over ↦
                let there : i + suc (j - i - 1) ≡ j = omega (arith, over) in
                let before = before_all net levels placed.order is (j - i - 1) i p q g h first (rw there second) gate other in
                absurd (omega (arith, low, not_later (rank_at levels g.out) (rank_at levels h.out) p q before))
          ]
        ]

placed_by : (net : NetList) (gates : List GateValue) (placed : AreInOrder net gates) (levels : Levels) → IsSound net → AllHaveLevels net levels → IsOrder net levels placed.order → ArePlaced net gates
placed_by net gates placed levels sound all is = record {
  all = λ g has. let at = place_of net gates placed levels is has.0 g has.1 in (at.0, at.2);
  only = λ g has. let at = position_of net gates placed has.0 g has.1 in (at.0, at.2);
  apart = λ i j g h first second same. apart i j g h first second same;
  inputs = earlier net gates placed levels sound all is;
  driven = λ g has source. let at = position_of net gates placed has.0 g has.1 in source_no_gate net g.out g sound.inside sound.one source (at.0, at.2) refl;
}
  where
    apart : (i j : ℕ) (g h : GateValue) → slice_get gates i ≡ Some g → slice_get gates j ≡ Some h → g.out ≡ h.out → i ≡ j
    apart i j g h first second same =
        let p = position_of net gates placed i g first in
        let q = position_of net gates placed j h second in
        let e : p.0 ≡ q.0 = gates_apart net p.0 q.0 g h sound.inside sound.one p.2 q.2 same in
        let second' : slice_get placed.order j ≡ Some p.0 = q.1 ∙ ap Some (sym e) in
        elim (nat_eq_or i j) [
          | inl equal ↦ equal
          | inr other ↦ elim (nat_eq_or (j - i) 0) [
            | inl under ↦ absurd (order_apart net levels placed.order is all j i p.0 g second' p.1 p.2 (omega (arith, other, under)))
            | inr over ↦ absurd (order_apart net levels placed.order is all i j p.0 g p.1 second' p.2 (omega (arith, over)))
          ]
        ]

pub are_placed : (net : NetList) (gates : List GateValue) → IsSound net → AreInOrder net gates → ArePlaced net gates
are_placed net gates sound placed =
    let found = sound_levels net sound in
    let levels : Levels = placed.is.0 in
    let same : found.0 ≡ levels = levels_only net found.0 levels sound.one found.1.0 placed.is.1 in
    let P : Levels → Type 0 = AllHaveLevels net in
    placed_by net gates placed levels sound (subst P same found.1) placed.is.2

-- a net has one list of its gates in order
pub in_order_only : (net : NetList) (gates others : List GateValue) → IsSound net → AreInOrder net gates → AreInOrder net others → gates ≡ others
in_order_only net gates others sound placed placed' =
    let same : placed.order ≡ placed'.order = order_only net placed.order placed'.order sound.one placed.is placed'.is in
    same_by gates others (omega (arith, placed.long, placed'.long, ap (λ (o : List ℕ). length o) same)) (λ k g got.
    let at = position_of net gates placed k g got in
    let at' : slice_get placed'.order k ≡ Some at.0 = ap (λ (o : List ℕ). slice_get o k) (sym same) ∙ at.1 in
    placed'.each k at.0 at' ∙ at.2)
  where
    same_by : (xs ys : List GateValue) → length xs ≡ length ys → ((k : ℕ) (g : GateValue) → slice_get xs k ≡ Some g → slice_get ys k ≡ Some g) → xs ≡ ys
    same_by [] [] long each = refl
    same_by [] (y ∷ ys) long each = absurd (omega arith)
    same_by (x ∷ xs) [] long each = absurd (omega arith)
    same_by (x ∷ xs) (y ∷ ys) long each =
        let head : Some y ≡ Some x = each 0 x refl in
        let head' : x ≡ y = cc in
        let tail : xs ≡ ys = same_by xs ys (omega arith) (λ k g got. each (suc k) g got) in
        rw (head', tail) refl
