-- Rising lists of ranks as sets.
use Rattle.std.proofs.Common.{◌≡◌, ℕ, ◌<◌, Bool, true, false, ◌||◌, List, [], ◌∷◌, length, ◌⊎◌, inl, inr, refl, sym, ◌∙◌, ap, subst, arith, nat_eq}
use Rattle.std.specs.declared.cmp.Ordering.TheVariants.{Less}
use Rattle.std.specs.Cmp.{nat_cmp_total}
use Rattle.std.specs.Ordering.{nat_cmp}
use Rattle.std.specs.List.{AllByRecursion, list_all, list_any}
use Rattle.std.specs.List.Sorted.{IsStrictlySortedBy}
use Rattle.std.proofs.lemmas.Bool.{eqb-true, eq-eqb, ne_eqb, and_parts, and_from, or_cases, or_left, or_right}
use Rattle.poly_mixed.proofs.RankLemmas.{from_less}

abbrev pub is_in : List ℕ → ℕ → Bool
is_in s r = list_any (λ x. nat_eq x r) s

-- ranks above r are in the set without_bit it
above : (r : ℕ) (s xs : List ℕ) → AllByRecursion (λ y. nat_cmp r y ≡ Less) xs → list_all (is_in (r ∷ s)) xs ≡ true → list_all (is_in s) xs ≡ true
above r s [] up h = refl
above r s (x ∷ xs) up h =
    let parts = and_parts (is_in (r ∷ s) x) (list_all (is_in (r ∷ s)) xs) h in
    let apart : nat_eq r x ≡ false = ne_eqb r x (λ e. let l = from_less r x up.0 in omega arith) in
    and_from (is_in s x) (list_all (is_in s) xs) (sym (ap (λ b. b || is_in s x) apart) ∙ parts.0) (above r s xs up.1 parts.1)

all_above : (r x : ℕ) (xs : List ℕ) → nat_cmp r x ≡ Less → AllByRecursion (λ y. nat_cmp x y ≡ Less) xs → AllByRecursion (λ y. nat_cmp r y ≡ Less) xs
all_above r x [] l up = tt
all_above r x (y ∷ ys) l up = (nat_cmp_total.trans r x y l up.0, all_above r x ys l up.1)

member_above : (r x : ℕ) (s : List ℕ) → AllByRecursion (λ y. nat_cmp r y ≡ Less) s → is_in s x ≡ true → nat_cmp r x ≡ Less
member_above r x [] up h = cc
member_above r x (y ∷ s) up h =
    elim (or_cases (nat_eq y x) (is_in s x) h) [
      | inl e ↦ let P : ℕ → Type 0 = λ n. nat_cmp r n ≡ Less in subst P (eqb-true y x e) up.0
      | inr e ↦ member_above r x s up.1 e
    ]

-- a subset has fewer ranks or is the whole
pub subset : (s xs : List ℕ) → IsStrictlySortedBy nat_cmp s → IsStrictlySortedBy nat_cmp xs → list_all (is_in s) xs ≡ true → (length xs < length s) ⊎ (xs ≡ s)
unfolding IsStrictlySortedBy
subset [] [] p q h = inr refl
subset [] (x ∷ xs) p q h = cc
subset (r ∷ s) [] p q h = inl (omega arith)
subset (r ∷ s) (x ∷ xs) p q h =
    let parts = and_parts (is_in (r ∷ s) x) (list_all (is_in (r ∷ s)) xs) h in
    elim (or_cases (nat_eq r x) (is_in s x) parts.0) [
      | inl e ↦
          let same : r ≡ x = eqb-true r x e in
          let P : ℕ → Type 0 = λ n. AllByRecursion (λ y. nat_cmp n y ≡ Less) xs in
          elim (subset s xs p.1 q.1 (above r s xs (subst P (sym same) q.0) parts.1)) [
            | inl l ↦ inl (omega arith)
            | inr w ↦ inr (λ i. sym same i ∷ w i)
          ]
      | inr e ↦
          let up : nat_cmp r x ≡ Less = member_above r x s p.0 e in
          elim (subset s (x ∷ xs) p.1 q (above r s (x ∷ xs) (up, all_above r x xs up q.0) h)) [
            | inl l ↦ inl (omega arith)
            | inr w ↦ inl (omega (arith, ap length w))
          ]
    ]

within : (r : ℕ) (s xs : List ℕ) → list_all (is_in s) xs ≡ true → list_all (is_in (r ∷ s)) xs ≡ true
within r s [] h = refl
within r s (x ∷ xs) h =
    let parts = and_parts (is_in s x) (list_all (is_in s) xs) h in
    and_from (is_in (r ∷ s) x) (list_all (is_in (r ∷ s)) xs) (or_right (nat_eq r x) (is_in s x) parts.0) (within r s xs parts.1)

pub whole : (s : List ℕ) → list_all (is_in s) s ≡ true
whole [] = refl
whole (r ∷ s) = and_from (is_in (r ∷ s) r) (list_all (is_in (r ∷ s)) s) (or_left (nat_eq r r) (is_in s r) (eq-eqb r r refl)) (within r s s (whole s))
