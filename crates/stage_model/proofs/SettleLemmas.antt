-- For the first gates of an order and a point there is exactly one settled list of bits.
use Rattle.std.proofs.Common.{◌≡◌, ◌≢◌, ◌⊎◌, ◌∙◌, ap, sym, refl, subst, inl, inr, ℕ, zero, suc, ◌<◌, Bool, List, [], ◌∷◌, length, None, Some, max, arith}
use Rattle.std.specs.Prelude.{slice_get, ◌==◌}
use Rattle.std.specs.Int.{bit_at}
use Rattle.lists.specs.Lists.{Has}
use Rattle.lists.specs.laws.HasLaws.{All_has}
use Rattle.lists.specs.laws.NumberLaws.{nat_eq_or}
use Rattle.net_core.specs.GateValue.{GateValue}
use Rattle.net_core.specs.NetList.{NetList, nets}
use Rattle.net_core.specs.Sound.{IsSound}
use Rattle.net_core.specs.Level.{Levels}
use Rattle.net_core.specs.Levelled.{AllHaveLevels}
use Rattle.net_core.specs.Order.{rank_at}
use Rattle.net_core.specs.Value.{bit_of, index_of}
use Rattle.net_core.proofs.DriverLemmas.{gate_inside, gates_apart}
use Rattle.net_core.proofs.EvalLemmas.{inputs_below, index_agree, same_lists, value_of}
use Rattle.net_core.proofs.ExistLemmas.{sound_levels}
use Rattle.circuit_model.proofs.GivenLemmas.{bits_by, bits_long, bits_at}
use Rattle.poly_mixed.specs.Polynomial.{Point}
use Rattle.stage_model.specs.Variables.{point_bit}
use Rattle.stage_model.specs.Cut.{IsAmongFirst, IsSettled}

-- whether one of the first t gates drives the net
abbrev IsDriven : NetList → List ℕ → ℕ → ℕ → Type 0
IsDriven net order t n = (g : GateValue) × IsAmongFirst net order t g × (g.out ≡ n)

abbrev pub IsFree : NetList → List ℕ → ℕ → ℕ → Type 0
IsFree net order t n = (g : GateValue) → IsAmongFirst net order t g → g.out ≢ n

abbrev IsNext : NetList → List ℕ → ℕ → GateValue → Type 0
IsNext net order t g = (p : ℕ) × (slice_get order t ≡ Some p) × (slice_get net.gates p ≡ Some g)

module _ (net : NetList) (order : List ℕ) where
  next_or : (t : ℕ) → ((g : GateValue) × IsNext net order t g) ⊎ ((g : GateValue) → IsNext net order t g → ⊥)
  next_or t =
      elim (slice_get order t) as (λ o. slice_get order t ≡ o → ((g : GateValue) × IsNext net order t g) ⊎ ((g : GateValue) → IsNext net order t g → ⊥)) [
        | None ↦ λ e. inr (λ g is. let at = is.1 in absurd (cc))
        | Some p ↦ λ e. elim (slice_get net.gates p) as (λ o. slice_get net.gates p ≡ o → ((g : GateValue) × IsNext net order t g) ⊎ ((g : GateValue) → IsNext net order t g → ⊥)) [
          | None ↦ λ f. inr (λ g is. none p g e f is)
          | Some g ↦ λ f. inl (g, (p, e, f))
        ] refl
      ] refl
    where
      none : (p : ℕ) (g : GateValue) → slice_get order t ≡ Some p → slice_get net.gates p ≡ None → IsNext net order t g → ⊥
      none p g e f is =
          let at : slice_get order t ≡ Some is.0 = is.1 in
          let same : is.0 ≡ p = cc in
          let got : slice_get net.gates p ≡ Some g = ap (slice_get net.gates) (sym same) ∙ is.2 in
          cc

  driven_or : (t n : ℕ) → IsDriven net order t n ⊎ IsFree net order t n
  driven_or zero n = inr (λ g is out. let less = is.2 in omega arith)
  driven_or (suc t) n =
      elim (driven_or t n) [
        | inl found ↦ inl (found.0, (found.1.0, found.1.1, later found.1.0 found.1.2, found.1.3, found.1.4), found.2)
        | inr free ↦ elim (next_or t) [
          | inl here ↦ elim (nat_eq_or here.0.out n) [
            | inl same ↦ inl (here.0, (t, here.1.0, own t, here.1.1, here.1.2), same)
            | inr other ↦ inr (λ g is out. elim (nat_eq_or is.0 t) [
              | inl last ↦ other (ap (λ (h : GateValue). h.out) (equal here.0 g t here.1 (is.1, ap (slice_get order) (sym last) ∙ is.3, is.4)) ∙ out)
              | inr before ↦ free g (is.0, is.1, early is.0 before is.2, is.3, is.4) out
            ])
          ]
          | inr none ↦ inr (λ g is out. elim (nat_eq_or is.0 t) [
            | inl last ↦ none g (is.1, ap (slice_get order) (sym last) ∙ is.3, is.4)
            | inr before ↦ free g (is.0, is.1, early is.0 before is.2, is.3, is.4) out
          ])
        ]
      ]
    where
      later : (i : ℕ) → i < t → i < suc t
      later i less = omega arith

      own : (i : ℕ) → i < suc i
      own i = omega arith

      early : (i : ℕ) → i ≢ t → i < suc t → i < t
      early i other less = omega (arith, other)

      equal : (g h : GateValue) (t : ℕ) → IsNext net order t g → IsNext net order t h → g ≡ h
      equal g h t a b =
          let first : slice_get order t ≡ Some a.0 = a.1 in
          let second : slice_get order t ≡ Some b.0 = b.1 in
          let place : b.0 ≡ a.0 = cc in
          let at : slice_get net.gates a.0 ≡ Some g = a.2 in
          let at' : slice_get net.gates a.0 ≡ Some h = ap (slice_get net.gates) (sym place) ∙ b.2 in
          cc

-- a number that is above the level of each net
above_all : Levels → ℕ
above_all [] = 1
above_all (None ∷ ls) = above_all ls
above_all (Some l ∷ ls) = max (suc l) (above_all ls)

positive : (levels : Levels) → 0 < above_all levels
unfolding above_all
positive [] = omega arith
positive (None ∷ ls) = positive ls
positive (Some l ∷ ls) = omega (arith, positive ls)

below_all : (levels : Levels) (n : ℕ) → rank_at levels n < above_all levels
unfolding above_all
below_all [] n = omega arith
below_all (None ∷ ls) zero = positive ls
below_all (None ∷ ls) (suc n) = below_all ls n
below_all (Some l ∷ ls) zero = omega arith
below_all (Some l ∷ ls) (suc n) = omega (arith, below_all ls n)

module _ (net : NetList) (sound : IsSound net) (order : List ℕ) (t : ℕ) where
  gate_has : (g : GateValue) → IsAmongFirst net order t g → Has net.gates g
  gate_has g is = (is.1, is.4)

  one_gate : (g h : GateValue) → IsAmongFirst net order t g → IsAmongFirst net order t h → g.out ≡ h.out → g ≡ h
  one_gate g h a b same =
      let place : a.1 ≡ b.1 = gates_apart net a.1 b.1 g h sound.inside sound.one a.4 b.4 same in
      let at : slice_get net.gates b.1 ≡ Some g = ap (slice_get net.gates) (sym place) ∙ a.4 in
      let at' : slice_get net.gates b.1 ≡ Some h = b.4 in
      cc

  module _ (levels : Levels) (all : AllHaveLevels net levels) (variables : List ℕ) (p : Point) where
    -- the bit of a net after f rounds
    chosen : List Bool → (n : ℕ) → IsDriven net order t n ⊎ IsFree net order t n → Bool
    chosen before n (inl found) = value_of before found.0
    chosen before n (inr free) = point_bit variables p n

    rounds : ℕ → List Bool
    rounds zero = bits_by (nets net) (point_bit variables p)
    rounds (suc f) = bits_by (nets net) (λ n. chosen (rounds f) n (driven_or net order t n))

    rounds_long : (f : ℕ) → length (rounds f) ≡ nets net
    unfolding rounds
    rounds_long zero = bits_long (nets net) (point_bit variables p)
    rounds_long (suc f) = bits_long (nets net) (λ n. chosen (rounds f) n (driven_or net order t n))

    round_at : (f n : ℕ) → n < nets net → bit_of (rounds (suc f)) n ≡ chosen (rounds f) n (driven_or net order t n)
    unfolding rounds
    round_at f n less = bits_at (nets net) (λ n. chosen (rounds f) n (driven_or net order t n)) n less

    same_chosen : (v w : List Bool) (n : ℕ) (d : IsDriven net order t n ⊎ IsFree net order t n) → ((m : ℕ) → rank_at levels m < rank_at levels n → m < nets net → bit_of v m ≡ bit_of w m) → chosen v n d ≡ chosen w n d
    unfolding chosen
    same_chosen v w n (inl found) same =
        let g : GateValue = found.0 in
        let has = gate_has g found.1 in
        ap (λ i. bit_at g.table i == 1) (index_agree v w g.inputs (λ k m got.
        same m (lower g.out n found.2 m (inputs_below net levels all g has m (k, got))) (All_has (λ n. n < nets net) g.inputs m (gate_inside net g sound.inside has).1 (k, got))))
      where
        lower : (a b : ℕ) → a ≡ b → (m : ℕ) → rank_at levels m < rank_at levels a → rank_at levels m < rank_at levels b
        lower a b same m less = let P : ℕ → Type 0 = λ c. rank_at levels m < rank_at levels c in subst P same less
    same_chosen v w n (inr free) same = refl

    stable : (f n : ℕ) → rank_at levels n < f → n < nets net → bit_of (rounds (suc f)) n ≡ bit_of (rounds f) n
    stable zero n low less = absurd (omega arith)
    stable (suc f) n low less =
        round_at (suc f) n less ∙ (same_chosen (rounds (suc f)) (rounds f) n (driven_or net order t n) (λ m lower inside. stable f m (omega arith) inside) ∙ sym (round_at f n less))

    last : List Bool
    last = rounds (above_all levels)

    last_is : (n : ℕ) → n < nets net → bit_of last n ≡ chosen last n (driven_or net order t n)
    unfolding last
    last_is n less = sym (stable (above_all levels) n (below_all levels n) less) ∙ round_at (above_all levels) n less

    of_driven : (g : GateValue) → IsAmongFirst net order t g → (d : IsDriven net order t g.out ⊎ IsFree net order t g.out) → chosen last g.out d ≡ value_of last g
    unfolding chosen
    of_driven g is (inl found) = ap (value_of last) (one_gate found.0 g found.1 is found.2)
    of_driven g is (inr free) = absurd (free g is refl)

    of_free : (n : ℕ) → IsFree net order t n → (d : IsDriven net order t n ⊎ IsFree net order t n) → chosen last n d ≡ point_bit variables p n
    unfolding chosen
    of_free n free (inl found) = absurd (free found.0 found.1 found.2)
    of_free n free (inr other) = refl

    last_long : length last ≡ nets net
    unfolding last
    last_long = rounds_long (above_all levels)

    last_settled : IsSettled net variables order t p last
    last_settled = record {
      long = last_long;
      free = λ n less free. last_is n less ∙ of_free n free (driven_or net order t n);
      right = λ g is. last_is g.out (gate_inside net g sound.inside (gate_has g is)).0 ∙ of_driven g is (driven_or net order t g.out);
    }

    module _ (v w : List Bool) (a : IsSettled net variables order t p v) (b : IsSettled net variables order t p w) where
      same_below : (f n : ℕ) → rank_at levels n < f → n < nets net → bit_of v n ≡ bit_of w n
      same_below zero n low less = absurd (omega arith)
      same_below (suc f) n low less =
          elim (driven_or net order t n) [
            | inl found ↦ by_gate found.0 found.1 found.2 (λ m lower inside. same_below f m (omega arith) inside)
            | inr free ↦ a.free n less free ∙ sym (b.free n less free)
          ]
        where
          by_gate : (g : GateValue) → IsAmongFirst net order t g → g.out ≡ n → ((m : ℕ) → rank_at levels m < rank_at levels n → m < nets net → bit_of v m ≡ bit_of w m) → bit_of v n ≡ bit_of w n
          by_gate g is out same =
              let has = gate_has g is in
              let P : ℕ → Type 0 = λ c. (m : ℕ) → rank_at levels m < rank_at levels c → m < nets net → bit_of v m ≡ bit_of w m in
              let same' : (m : ℕ) → rank_at levels m < rank_at levels g.out → m < nets net → bit_of v m ≡ bit_of w m = subst P (sym out) same in
              let index : index_of v g.inputs ≡ index_of w g.inputs = index_agree v w g.inputs (λ k m got. same' m (inputs_below net levels all g has m (k, got)) (All_has (λ n. n < nets net) g.inputs m (gate_inside net g sound.inside has).1 (k, got))) in
              sym (ap (bit_of v) out) ∙ (a.right g is ∙ (ap (λ i. bit_at g.table i == 1) index ∙ (sym (b.right g is) ∙ ap (bit_of w) out)))

      same_settled : v ≡ w
      same_settled = same_lists v w (a.long ∙ sym b.long) (λ n less. same_below (suc (rank_at levels n)) n (omega arith) (omega (arith, a.long)))

  pub some_settled : (variables : List ℕ) (p : Point) → (bits : List Bool) × IsSettled net variables order t p bits
  some_settled variables p = let found = sound_levels net sound in (last found.0 found.1 variables p, last_settled found.0 found.1 variables p)

  pub one_settled : (variables : List ℕ) (p : Point) (v w : List Bool) → IsSettled net variables order t p v → IsSettled net variables order t p w → v ≡ w
  one_settled variables p v w a b = let found = sound_levels net sound in same_settled found.0 found.1 variables p v w a b
