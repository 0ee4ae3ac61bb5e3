-- Each function of at most six nets has a form.
use Rattle.std.proofs.Common.{◌≡◌, ◌≢◌, ◌⊎◌, ◌∙◌, ap, sym, refl, inl, inr, subst, ℕ, zero, suc, ◌<◌, ◌≤◌, ◌+◌, ◌-◌, ◌*◌, ◌^◌, Bool, true, false, cond, List, [], ◌∷◌, length, remove, arith, pow-suc, mul-zero, mul-one, mod-eq_of_lt}
use Rattle.std.specs.Prelude.{slice_get}
use Rattle.std.specs.Int.{bit_at}
use Rattle.std.proofs.lemmas.Nat.Bits.{bit_at_cat_low, bit_at_cat_high, bit_at_lowest}
use Rattle.lists.specs.Lists.{Has}
use Rattle.lists.specs.laws.NumberLaws.{nat_eq_or}
use Rattle.lists.specs.laws.ReadLaws.{get_below}
use Rattle.net_core.specs.Value.{bit_of, index_of}
use Rattle.net_simplify.specs.Choice.{leaves_of}
use Rattle.net_simplify.specs.Form.{Form, IsComposed, IsForm, IsRising, index_by, value}
use Rattle.net_simplify.specs.private.Lists.{HoldLeaves, IsLeft, IsTold, bit_number, with_place, without_leaf}
use Rattle.net_simplify.proofs.FormLemmas.{bit_small, index_by_agree, value_agree}
use Rattle.net_simplify.proofs.HalfLemmas.{IsHalf, idle_at, kept_at, left_form, left_start, left_step, number_small, remove_length}
use Rattle.net_simplify.proofs.LeafLemmas.{leaves_hold, leaves_rise}
use Rattle.net_simplify.proofs.ListLemmas.{has_cons, has_none, index_lt, index_some}
use Rattle.net_simplify.proofs.StepLemmas.{composed_over}

-- a number whose bits are as wanted
number_some : (w : ℕ) (R : ℕ → ℕ → Type 0) → ((i : ℕ) → i < w → (b : ℕ) × (b < 2) × R i b) → (t : ℕ) × (t < 2 ^ w) × ((i : ℕ) → i < w → R i (bit_at t i))
number_some zero R each = (0, omega arith, λ i less. absurd (omega arith))
number_some (suc w) R each =
    let low = number_some w R (λ i less. each i (omega (arith, less))) in
    let top = each w (omega arith) in
    let here : bit_at (top.0 * 2 ^ w + low.0) w ≡ top.0 =
    bit_at_cat_high top.0 w low.0 w low.1 (omega arith)
    ∙ (let e : w - w ≡ 0 = omega arith in ap (bit_at top.0) e)
    ∙ bit_at_lowest top.0
    ∙ mod-eq_of_lt top.1 in (
      top.0 * 2 ^ w + low.0,
      fits top.0 low.0 top.1 low.1,
      λ i less. elim (nat_eq_or i w) [
        | inl same ↦
            let P : ℕ → Type 0 = λ b. R w b in
            let Q : ℕ → Type 0 = λ k. R k (bit_at (top.0 * 2 ^ w + low.0) k) in
            subst Q (sym same) (subst P (sym here) top.2)
        | inr apart ↦
            let under : i < w = omega (arith, less, apart) in
            let P : ℕ → Type 0 = λ b. R i b in
            subst P (sym (bit_at_cat_low top.0 w low.0 i under)) (low.2 i under)
      ],
    )
  where
    fits : (b t : ℕ) → b < 2 → t < 2 ^ w → b * 2 ^ w + t < 2 ^ suc w
    fits zero t small less = omega (arith, less, pow-suc 2 w)
    fits (suc zero) t small less = omega (arith, less, pow-suc 2 w)
    fits (suc (suc b)) t small less = absurd (omega arith)

-- bits that make the same index have the same leaves
bits_alike : (v w : List Bool) (ns : List ℕ) → index_of v ns ≡ index_of w ns → (n : ℕ) → Has ns n → bit_of v n ≡ bit_of w n
bits_alike v w [] same n has = absurd (has_none n has)
bits_alike v w (m ∷ ns) same n has =
    let low : bit_number v m ≡ bit_number w m = omega (arith, same, number_small v m, number_small w m) in
    let high : index_of v ns ≡ index_of w ns = omega (arith, same, number_small v m, number_small w m) in
    cases (bits_alike v w ns high) (from_number (bit_of v m) (bit_of w m) low) (has_cons m ns n has)
  where
    from_number : (a b : Bool) → ◌≡◌ {A = ℕ} (cond a 1 0) (cond b 1 0) → a ≡ b
    from_number true true e = refl
    from_number false false e = refl
    from_number true false e = absurd (omega (arith, e))
    from_number false true e = absurd (omega (arith, e))

    cases : ((k : ℕ) → Has ns k → bit_of v k ≡ bit_of w k) → bit_of v m ≡ bit_of w m → (m ≡ n) ⊎ Has ns n → bit_of v n ≡ bit_of w n
    cases later here (inl is) = let P : ℕ → Type 0 = λ k. bit_of v k ≡ bit_of w k in subst P is here
    cases later here (inr has') = later n has'

-- the table of a function of forms over all their leaves
table_some : (table : ℕ) (forms : List Form) → (found : ℕ) × (found < 2 ^ (2 ^ length (leaves_of forms))) × ((bits : List Bool) → bit_at found (index_of bits (leaves_of forms)) ≡ bit_at table (index_by bits forms))
table_some table forms =
    let leaves : List ℕ = leaves_of forms in
    let R : ℕ → ℕ → Type 0 = λ i b. (bits : List Bool) → index_of bits leaves ≡ i → b ≡ bit_at table (index_by bits forms) in
    let made = number_some (2 ^ length leaves) R (λ i less.
    let s = index_some leaves (leaves_rise forms) i less in
    (bit_at table (index_by s.0 forms), bit_small table (index_by s.0 forms), λ bits at. ap (bit_at table) (index_by_agree s.0 bits forms (λ f has. value_agree f s.0 bits (λ n leaf. bits_alike s.0 bits leaves (s.1 ∙ sym at) n (leaves_hold forms f has n leaf)))))) in
    (made.0, made.1, λ bits. made.2 (index_of bits leaves) (index_lt bits leaves) bits refl)

half_some : (table place places : ℕ) → (half : ℕ) × (half < 2 ^ (2 ^ places)) × IsHalf table places place 0 half
half_some table place places = number_some (2 ^ places) (λ i b. b ≡ bit_at table (with_place place 0 i)) (λ i less. (bit_at table (with_place place 0 i), bit_small table (with_place place 0 i), refl))

-- whether the bit at a place matters
told_or : (table places place : ℕ) → IsTold table places place ⊎ ((i : ℕ) → i < 2 ^ places → bit_at table (with_place place 0 i) ≡ bit_at table (with_place place 1 i))
told_or table places place = elim (search_to (2 ^ places) (omega arith)) [
  | inl told ↦ inl told
  | inr alike ↦ inr alike
]
  where
    search_to : (n : ℕ) → n ≤ 2 ^ places → IsTold table places place ⊎ ((i : ℕ) → i < n → bit_at table (with_place place 0 i) ≡ bit_at table (with_place place 1 i))
    search_to zero within = inr (λ i less. absurd (omega arith))
    search_to (suc n) within = elim (nat_eq_or (bit_at table (with_place place 0 n)) (bit_at table (with_place place 1 n))) [
      | inr other ↦ inl (n, omega (arith, within), other)
      | inl equal ↦ elim (search_to n (omega (arith, within))) [
        | inl told ↦ inl told
        | inr alike ↦ inr (λ i less. elim (nat_eq_or i n) [
          | inl here ↦ let P : ℕ → Type 0 = λ k. bit_at table (with_place place 0 k) ≡ bit_at table (with_place place 1 k) in subst P (sym here) equal
          | inr there ↦ alike i (omega (arith, less, there))
        ])
      ]
    ]

-- what is left of a form after all places
abbrev IsRest : Form → Form → Type 0
IsRest start left = IsLeft start left 0 × (length left.leaves ≤ 6) × (left.table < 2 ^ (2 ^ length left.leaves))

rest_some : (start : Form) (place : ℕ) (form : Form) → IsLeft start form place → length form.leaves ≤ 6 → form.table < 2 ^ (2 ^ length form.leaves) → (left : Form) × IsRest start left
rest_some start zero form is few fits = (form, (is, few, fits))
rest_some start (suc place) form is few fits =
    let less : place < length form.leaves = omega (arith, is.long) in
    elim (told_or form.table (length form.leaves - 1) place) [
      | inl told ↦ rest_some start place form (left_step start form form place is (kept_at form place (length form.leaves - 1) is.rises less refl told)) few fits
      | inr alike ↦
          let h = half_some form.table place (length form.leaves - 1) in
          let at = get_below form.leaves place less in
          let long : length (remove form.leaves place) ≡ length form.leaves - 1 = omega (arith, remove_length form.leaves place at.0 at.1) in
          let P : ℕ → Type 0 = λ k. h.0 < 2 ^ (2 ^ k) in
          rest_some start place (without_leaf form place h.0) (left_step start form (without_leaf form place h.0) place is (idle_at form place (length form.leaves - 1) h.0 is.rises less refl h.2 alike)) (omega (arith, long, few)) (subst P (sym long) h.1)
    ]

-- a table's function of forms, which have six leaves at most
pub composed_some : (table : ℕ) (forms : List Form) → length (leaves_of forms) ≤ 6 → (form : Form) × IsComposed table forms form
composed_some table forms few =
    let leaves : List ℕ = leaves_of forms in
    let t = table_some table forms in
    let start : Form = record { leaves = leaves; table = t.0 } in
    let r = rest_some start (length leaves) start (left_start start (length leaves) refl (leaves_rise forms)) few t.1 in
    (r.0, composed_over leaves table t.0 forms r.0 (left_form start r.0 r.1.1 r.1.2 r.1.0) (λ bits. r.1.0.same bits) t.2)
