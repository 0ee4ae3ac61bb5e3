-- The bits of a term without one of a word's bits: those of the word below it, those of no word, and those above it.
use Rattle.std.proofs.Common.{◌≡◌, ◌≢◌, ◌∙◌, ap, refl, subst, ℕ, zero, suc, ◌<◌, Bool, true, false, cond, not, ◌&&◌, nat_eq, List, [], ◌∷◌, take, drop, Some, arith}
use Rattle.std.specs.Prelude.{slice_get}
use Rattle.std.specs.declared.cmp.Ordering.TheVariants.{Less}
use Rattle.std.specs.Ordering.{nat_cmp}
use Rattle.std.specs.List.{filter, list_all}
use Rattle.std.specs.List.Sorted.{IsStrictlySortedBy}
use Rattle.std.proofs.lemmas.Bool.{eq-eqb, ne_eqb}
use Rattle.lists.specs.laws.BoolLaws.{and_swap, and_into, and_into_second, and_into_first}
use Rattle.lists.specs.laws.HasLaws.{all_in}
use Rattle.lists.specs.laws.ListLaws.{all_filter}
use Rattle.poly_mixed.proofs.RankLemmas.{Above, from_less}

-- f says which ranks are the word's; q, low and high agree as they are to around the rank r
module _ (f q low high : ℕ → Bool) (r : ℕ) (own : f r ≡ true) (own_low : (x : ℕ) → f x ≡ true → x < r → q x ≡ low x) (own_high : (x : ℕ) → f x ≡ true → r < x → q x ≡ high x) (other : (x : ℕ) → f x ≡ false → q x ≡ low x) where
  abbrev without : List ℕ → List ℕ
  without xs = filter (λ x. not (nat_eq x r)) xs

  abbrev others : List ℕ → List ℕ
  others xs = filter (λ x. not (f x)) xs

  apart_first : (x : ℕ) (xs : List ℕ) → x ≢ r → list_all q (without (x ∷ xs)) ≡ (q x && list_all q (without xs))
  apart_first x xs apart = ap (λ b. list_all q (cond (not b) (x ∷ without xs) (without xs))) (ne_eqb x r apart)

  all_after : (xs : List ℕ) → Above r xs → list_all q (without xs) ≡ (list_all low (others xs) && list_all high (filter f xs))
  all_after [] up = refl
  all_after (x ∷ xs) up =
      let more : r < x = from_less r x up.0 in
      let rest = all_after xs up.1 in
      let a : Bool = list_all low (others xs) in
      let b : Bool = list_all high (filter f xs) in
      apart_first x xs (λ same. absurd (omega (arith, more, same)))
      ∙ (ap (λ v. q x && v) rest
      ∙ elim (f x) as (λ v. f x ≡ v → (q x && (list_all low (others xs) && list_all high (filter f xs))) ≡ (list_all low (cond (not v) (x ∷ others xs) (others xs)) && list_all high (cond v (x ∷ filter f xs) (filter f xs)))) [
        | true ↦ λ e. ap (λ v. v && (list_all low (others xs) && list_all high (filter f xs))) (own_high x e more) ∙ and_swap (high x) (list_all low (others xs)) (list_all high (filter f xs))
        | false ↦ λ e. ap (λ v. v && (list_all low (others xs) && list_all high (filter f xs))) (other x e) ∙ and_into (low x) (list_all low (others xs)) (list_all high (filter f xs))
      ] refl)

  pub all_around : (xs : List ℕ) (j : ℕ) → IsStrictlySortedBy nat_cmp xs → slice_get (filter f xs) j ≡ Some r
      → list_all q (without xs) ≡ ((list_all low (take j (filter f xs)) && list_all low (others xs)) && list_all high (drop (suc j) (filter f xs)))
  unfolding IsStrictlySortedBy
  all_around [] j up got = absurd (cc)
  all_around (x ∷ xs) j up got =
      elim (f x) as (λ v. f x ≡ v → slice_get (cond v (x ∷ filter f xs) (filter f xs)) j ≡ Some r
      → list_all q (without (x ∷ xs)) ≡ ((list_all low (take j (cond v (x ∷ filter f xs) (filter f xs))) && list_all low (cond (not v) (x ∷ others xs) (others xs))) && list_all high (drop (suc j) (cond v (x ∷ filter f xs) (filter f xs))))) [
        | true ↦ λ e here. mine j e here (λ i later. all_around xs i up.1 later)
        | false ↦ λ e here.
            let apart : x ≢ r = different x e in
            apart_first x xs apart
            ∙ (ap (λ v. q x && v) (all_around xs j up.1 here)
            ∙ (ap (λ v. v && ((list_all low (take j (filter f xs)) && list_all low (others xs)) && list_all high (drop (suc j) (filter f xs)))) (other x e)
            ∙ and_into_second (low x) (list_all low (take j (filter f xs))) (list_all low (others xs)) (list_all high (drop (suc j) (filter f xs)))))
      ] refl got
    where
      different : (y : ℕ) → f y ≡ false → y ≢ r
      different y e same = let P : ℕ → Type 0 = λ z. f z ≡ false in let bad : f r ≡ false = subst P same e in absurd (cc)

      mine : (j : ℕ) → f x ≡ true → slice_get (x ∷ filter f xs) j ≡ Some r
          → ((i : ℕ) → slice_get (filter f xs) i ≡ Some r → list_all q (without xs) ≡ ((list_all low (take i (filter f xs)) && list_all low (others xs)) && list_all high (drop (suc i) (filter f xs))))
          → list_all q (without (x ∷ xs)) ≡ ((list_all low (take j (x ∷ filter f xs)) && list_all low (others xs)) && list_all high (drop (suc j) (x ∷ filter f xs)))
      mine zero e here more =
          let same : x ≡ r = cc in
          let P : ℕ → Type 0 = λ y. Above y xs in
          ap (λ b. list_all q (cond (not b) (x ∷ without xs) (without xs))) (eq-eqb x r same) ∙ all_after xs (subst P same up.0)
      mine (suc i) e here more =
          let less : x < r = from_less x r (all_in (λ y. nat_cmp x y ≡ Less) (filter f xs) r (all_filter (λ y. nat_cmp x y ≡ Less) f xs up.0) (i, here)) in
          apart_first x xs (λ same. absurd (omega (arith, less, same)))
          ∙ (ap (λ v. q x && v) (more i here)
          ∙ (ap (λ v. v && ((list_all low (take i (filter f xs)) && list_all low (others xs)) && list_all high (drop (suc i) (filter f xs)))) (own_low x e less)
          ∙ and_into_first (low x) (list_all low (take i (filter f xs))) (list_all low (others xs)) (list_all high (drop (suc i) (filter f xs)))))
