-- The steps of the code on matrices, and the inverse.
use Rattle.std.proofs.Common.{◌≡◌, ◌≢◌, ℕ, suc, refl, sym, ◌∙◌, ap, ap₂, ◌<◌, ◌^◌, ◌+◌, ◌*◌, ◌/◌, ◌%◌, inl, inr, arith, pow_pos, List, length, get_or, set, drop, get_or-set_same, get_or-set_other, one-mul, zero-mul, add-one, shr-shr, drop-cons, subst}
use Rattle.std.specs.Prelude.{bit_xor, bit_and, slice_index}
use Rattle.std.specs.Int.{bit_at}
use Rattle.std.specs.Int.Bits.{xor_lt, xor_zero_l, xor_assoc}
use Rattle.std.proofs.lemmas.Bool.{cases_eq}
use Rattle.std.proofs.lemmas.Nat.{pow_below}
use Rattle.std.proofs.lemmas.Nat.Bits.{shr_and_one}
use Rattle.lists.specs.laws.NumberLaws.{bit_cases}
use Rattle.lists.specs.laws.XorLaws.{xor_cancel}
use Rattle.irreducible.specs.Span.{combination}
use Rattle.irreducible.specs.laws.SpanLaws.{combination-xor, combination_zero, combination_unit, combination_below, combination-short}
use Rattle.irreducible.specs.laws.AdditiveLaws.{IsAdditive-combination, additive-combination}
use Rattle.irreducible.specs.private.Pivots.{IsCleared, AreChoices}

-- ---- the sum of chosen rows
abbrev pub Rest : List ℕ → ℕ → ℕ → ℕ → Type 0
Rest rows choice sum i = bit_xor sum (combination (drop i rows) (choice / 2 ^ i)) ≡ combination rows choice

opened : (rows : List ℕ) (choice i : ℕ) → i < length rows → combination (drop i rows) (choice / 2 ^ i) ≡ bit_xor (bit_at choice i * get_or rows i 0) (combination (drop (i + 1) rows) (choice / 2 ^ (i + 1)))
opened rows choice i h = ap (λ r. combination r (choice / 2 ^ i)) (drop-cons rows i 0 h) ∙ rw add-one (ap (λ x. bit_xor (bit_at choice i * get_or rows i 0) (combination (drop (suc i) rows) x)) (shr-shr choice i 1 ∙ ap (λ x. choice / 2 ^ x) (add-one i)))

pub rest_one : (rows : List ℕ) (choice sum i : ℕ) → i < length rows → bit_and (choice / 2 ^ i) 1 ≡ 1 → Rest rows choice sum i → Rest rows choice (bit_xor sum (get_or rows i 0)) (i + 1)
rest_one rows choice sum i h one inv =
    xor_assoc sum (get_or rows i 0) (combination (drop (i + 1) rows) (choice / 2 ^ (i + 1)))
    ∙ ap (bit_xor sum) (sym (opened rows choice i h ∙ ap (λ x. bit_xor x (combination (drop (i + 1) rows) (choice / 2 ^ (i + 1)))) (ap (λ b. b * get_or rows i 0) (sym (shr_and_one choice i) ∙ one) ∙ one-mul (get_or rows i 0))))
    ∙ inv

pub rest_zero : (rows : List ℕ) (choice sum i : ℕ) → i < length rows → bit_and (choice / 2 ^ i) 1 ≢ 1 → Rest rows choice sum i → Rest rows choice sum (i + 1)
rest_zero rows choice sum i h other inv =
    ap (bit_xor sum) (sym (opened rows choice i h ∙ ap (λ x. bit_xor x (combination (drop (i + 1) rows) (choice / 2 ^ (i + 1)))) (ap (λ b. b * get_or rows i 0) none ∙ zero-mul (get_or rows i 0)) ∙ xor_zero_l (combination (drop (i + 1) rows) (choice / 2 ^ (i + 1)))))
    ∙ inv
  where
    none : bit_at choice i ≡ 0
    none = elim (bit_cases (bit_at choice i) (omega arith)) [ inl z ↦ z | inr o ↦ absurd (other (shr_and_one choice i ∙ o)) ]

-- ---- the choices of pivots
pub choices_start : (rows sums choices : List ℕ) → ((t : ℕ) → slice_index sums t ≡ 0) → ((t : ℕ) → slice_index choices t ≡ 0) → AreChoices rows sums choices
choices_start rows sums choices s c = record {
  makes = λ t. ap (combination rows) (c t) ∙ combination_zero rows ∙ sym (s t);
  below = λ t. rw (c t) (pow_pos (length rows));
}

-- what the pivots make by a choice, the rows make by the sum of the pivots' choices
pub choices_make : (rows sums choices : List ℕ) → AreChoices rows sums choices → length choices ≡ length sums → (used : ℕ) → combination rows (combination choices used) ≡ combination sums used
choices_make rows sums choices a same used =
    additive-combination choices (combination rows) (combination sums) (IsAdditive-combination rows) (IsAdditive-combination sums) (λ t l. a.makes t ∙ sym (combination_unit sums t)) used
    ∙ ap (λ n. combination sums (used % 2 ^ n)) same ∙ combination-short sums used

pub choices_short : (rows sums choices : List ℕ) → AreChoices rows sums choices → (used : ℕ) → combination choices used < 2 ^ length rows
choices_short rows sums choices a used = combination_below choices (length rows) used (λ t l. a.below t)

module _ (rows sums choices : List ℕ) (i left used t : ℕ) (a : AreChoices rows sums choices) (same : length choices ≡ length sums) (d : IsCleared sums (get_or rows i 0) left used 0) (h : i < length rows) (room : t < length sums) where
  next_choice : ℕ
  next_choice = bit_xor (2 ^ i) (combination choices used)

  next_makes : combination rows next_choice ≡ left
  unfolding next_choice
  next_makes =
      combination-xor rows (2 ^ i) (combination choices used)
      ∙ ap₂ bit_xor (combination_unit rows i) (choices_make rows sums choices a same used ∙ d.within) ∙ xor_cancel (get_or rows i 0) left

  pub choices_more : AreChoices rows (set sums t left) (set choices t (bit_xor (2 ^ i) (combination choices used)))
  unfolding next_choice
  choices_more = record {
    makes = λ s. elim (cases_eq s t) [
      | inl e ↦ rw (e) (rw (get_or-set_same sums t left 0 room) (ap (combination rows) (get_or-set_same choices t (bit_xor (2 ^ i) (combination choices used)) 0 (omega arith)) ∙ next_makes))
      | inr ne ↦ ap (combination rows) (other choices s ne (bit_xor (2 ^ i) (combination choices used))) ∙ a.makes s ∙ sym (other sums s ne left)
    ];
    below = λ s. elim (cases_eq s t) [
      | inl e ↦ rw (e) (rw (get_or-set_same choices t (bit_xor (2 ^ i) (combination choices used)) 0 (omega arith)) (xor_lt (length rows) (2 ^ i) (combination choices used) (pow_below i (length rows) h) (choices_short rows sums choices a used)))
      | inr ne ↦ rw (other choices s ne (bit_xor (2 ^ i) (combination choices used))) (a.below s)
    ];
  }
    where
      other : (xs : List ℕ) (s : ℕ) → s ≢ t → (v : ℕ) → get_or (set xs t v) s 0 ≡ get_or xs s 0
      other xs s ne v = rw get_or-set_other refl

-- what holds of each entry below i, and of the one that is written at i
pub set_more : (P : ℕ → ℕ → Type 0) (xs : List ℕ) (i v : ℕ) → i < length xs → ((j : ℕ) → j < i → P j (get_or xs j 0)) → P i v → (j : ℕ) → j < i + 1 → P j (get_or (set xs i v) j 0)
set_more P xs i v room below here j h = elim (cases_eq j i) [
  | inl e ↦ subst (λ (n : ℕ). P n (get_or (set xs i v) n 0)) (sym e) (subst (P i) (sym (get_or-set_same xs i v 0 room)) here)
  | inr ne ↦ subst (P j) (sym (other ne)) (below j (omega arith))
]
  where
    other : j ≢ i → get_or (set xs i v) j 0 ≡ get_or xs j 0
    other ne = rw get_or-set_other refl
