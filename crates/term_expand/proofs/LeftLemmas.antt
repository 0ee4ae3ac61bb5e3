-- The factors that are left of a term: digit by digit and pair by pair.
use Rattle.std.proofs.Common.{◌≡◌, ◌≢◌, ◌∙◌, ap, sym, refl, ℕ, zero, suc, ◌<◌, ◌≤◌, ◌+◌, ◌-◌, ◌/◌, ◌%◌, ◌^◌, cond, List, [], ◌∷◌, ◌++◌, length, drop, Some, arith, add-one}
use Rattle.std.specs.Prelude.{slice_get}
use Rattle.std.proofs.lemmas.Bool.{eq-eqb, ne_eqb}
use Rattle.lists.specs.laws.TakeLaws.{dropped_at}
use Rattle.term_expand.specs.SumValue.{ones_of, factors_with, factors_of}
use Rattle.term_expand.specs.private.Reached.{digits_left, pairs_left}

-- ---- lists

pub first_left : {A : Type 0} (xs ys : List A) (n : ℕ) (x : A) → drop n xs ≡ x ∷ ys → slice_get xs n ≡ Some x
first_left [] ys zero x e = absurd (cc)
first_left [] ys (suc n) x e = absurd (cc)
first_left (y ∷ xs) ys zero x e = let same : y ≡ x = cc in ap Some same
first_left (y ∷ xs) ys (suc n) x e = first_left xs ys n x e

drop_next : {A : Type 0} (xs ys : List A) (n : ℕ) (x : A) → drop n xs ≡ x ∷ ys → drop (suc n) xs ≡ ys
drop_next [] ys zero x e = absurd (cc)
drop_next [] ys (suc n) x e = absurd (cc)
drop_next (y ∷ xs) ys zero x e = let same : xs ≡ ys = cc in same
drop_next (y ∷ xs) ys (suc n) x e = drop_next xs ys n x e

pub after_left : {A : Type 0} (xs ys : List A) (n m : ℕ) (x : A) → m ≡ n + 1 → drop n xs ≡ x ∷ ys → drop m xs ≡ ys
after_left xs ys n m x next e = ap (λ i. drop i xs) (next ∙ add-one n) ∙ drop_next xs ys n x e

pub none_left : {A : Type 0} (xs : List A) (n : ℕ) → drop n xs ≡ [] → length xs ≤ n
none_left [] n e = omega arith
none_left (y ∷ xs) zero e = absurd (cc)
none_left (y ∷ xs) (suc n) e = omega (arith, none_left xs n e)

drop_past : (ps : List (ℕ × ℕ)) (n : ℕ) → length ps ≤ n → drop n ps ≡ []
drop_past [] zero low = refl
drop_past [] (suc n) low = refl
drop_past (p ∷ ps) zero low = absurd (omega (arith, low))
drop_past (p ∷ ps) (suc n) low = drop_past ps n (omega (arith, low))

-- ---- digits

module _ (word j left pair : ℕ) (less : j < 64) (ps : List (ℕ × ℕ)) where
  down : 64 - j ≡ suc (64 - (j + 1))
  down = omega (arith, less)

  pub digit_is_one : left % 2 ≡ 1 → digits_left word j left pair ps ≡ (word, 2 ^ j) ∷ digits_left word (j + 1) (left / 2) pair ps
  digit_is_one one =
      ap (λ n. factors_with word (ones_of n j left) ++ pairs_left (pair + 1) ps) down
      ∙ ap (λ b. factors_with word (cond b (j ∷ ones_of (64 - (j + 1)) (j + 1) (left / 2)) (ones_of (64 - (j + 1)) (j + 1) (left / 2))) ++ pairs_left (pair + 1) ps) (eq-eqb (left % 2) 1 one)

  pub digit_is_zero : left % 2 ≢ 1 → digits_left word j left pair ps ≡ digits_left word (j + 1) (left / 2) pair ps
  digit_is_zero none =
      ap (λ n. factors_with word (ones_of n j left) ++ pairs_left (pair + 1) ps) down
      ∙ ap (λ b. factors_with word (cond b (j ∷ ones_of (64 - (j + 1)) (j + 1) (left / 2)) (ones_of (64 - (j + 1)) (j + 1) (left / 2))) ++ pairs_left (pair + 1) ps) (ne_eqb (left % 2) 1 none)

-- ---- pairs

module _ (word e pair : ℕ) (ps : List (ℕ × ℕ)) (got : slice_get ps pair ≡ Some (word, e)) where
  pub pair_begins : pairs_left pair ps ≡ digits_left word 0 e pair ps
  pair_begins =
      ap factors_of (dropped_at ps pair (word, e) got)
      ∙ ap (λ n. factors_with word (ones_of 64 0 e) ++ factors_of (drop n ps)) (sym (add-one pair))

  -- a pair whose exponent is 0 has no factor
  pub pair_is_none : e ≡ 0 → pairs_left pair ps ≡ pairs_left (pair + 1) ps
  pair_is_none none = pair_begins ∙ ap (λ n. factors_with word (ones_of 64 0 n) ++ pairs_left (pair + 1) ps) none

pub pairs_end : (pair : ℕ) (ps : List (ℕ × ℕ)) → length ps ≤ pair → pairs_left pair ps ≡ []
pairs_end pair ps last = ap factors_of (drop_past ps pair last)
