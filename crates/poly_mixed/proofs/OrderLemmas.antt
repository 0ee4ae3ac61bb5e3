-- The order of monomials is that of their lists of exponents, the greater list first.
use Rattle.std.proofs.Common.{◌≡◌, ℕ, zero, suc, ◌+◌, ◌<◌, ◌≤◌, Bool, true, false, cond, ◌||◌, List, [], ◌∷◌, ◌++◌, length, nat_eq, inl, inr, refl, sym, ◌∙◌, ap, subst, arith}
use Rattle.std.specs.declared.cmp.Ordering.{Ordering}
use Rattle.std.specs.declared.cmp.Ordering.TheVariants.{Less, Equal, Greater}
use Rattle.std.specs.Cmp.{nat_cmp_total, tied_itself}
use Rattle.std.specs.Ordering.{nat_cmp, ordering_then, ordering_reverse}
use Rattle.std.specs.List.{AllByRecursion, list_any}
use Rattle.std.specs.List.Sorted.{IsStrictlySortedBy}
use Rattle.std.proofs.lemmas.Bool.{eq-eqb, ne_eqb, cases_eq}
use Rattle.lists.specs.laws.OrderingLaws.{cmp_less}
use Rattle.poly_mixed.specs.Monomial.{Monomial, exponents_cmp, ranks_cmp, text_cmp}
use Rattle.poly_mixed.specs.Order.{exponents_from, exponent_list, HasRanksBelow}
use Rattle.poly_mixed.proofs.RankLemmas.{Above, from_less}

not_in : (x i : ℕ) (rs : List ℕ) → i ≤ x → Above x rs → list_any (λ r. nat_eq r i) rs ≡ false
not_in x i [] l up = refl
not_in x i (r ∷ rs) l up =
    let apart : nat_eq r i ≡ false = ne_eqb r i (λ e. let g = from_less x r up.0 in omega arith) in
    ap (λ b. b || list_any (λ r. nat_eq r i) rs) apart ∙ not_in x i rs l up.1

-- what a rising list that starts at i or above has at i
at_first : (i x : ℕ) (xs : List ℕ) → i ≤ x → Above x xs → list_any (λ r. nat_eq r i) (x ∷ xs) ≡ nat_eq x i
at_first i x xs l up =
    elim (nat_eq x i) as (λ b. (b || list_any (λ r. nat_eq r i) xs) ≡ b) [ true ↦ refl | false ↦ not_in x i xs l up ]

-- a rank below i changes nothing from i on
skips : (x i n : ℕ) (xs : List ℕ) → x < i → exponents_from i n (x ∷ xs) ≡ exponents_from i n xs
skips x i zero xs l = refl
skips x i (suc n) xs l =
    let apart : nat_eq x i ≡ false = ne_eqb x i (λ e. omega arith) in
    λ j. cond (apart j || list_any (λ r. nat_eq r i) xs) 1 0 ∷ skips x (i + 1) n xs (omega arith) j

-- rising, from i on and below i + n
pub record IsWithin (i n : ℕ) (xs : List ℕ) : Type 0 where
  pub rising : IsStrictlySortedBy nat_cmp xs
  pub from : AllByRecursion (λ x. i ≤ x) xs
  pub below : AllByRecursion (λ x. x < i + n) xs

moved : (i n : ℕ) (xs : List ℕ) → AllByRecursion (λ x. x < i + suc n) xs → AllByRecursion (λ x. x < i + 1 + n) xs
moved i n [] all = tt
moved i n (x ∷ xs) all = (let h = all.0 in omega arith, moved i n xs all.1)

above_from : (x i : ℕ) (xs : List ℕ) → i ≤ x → Above x xs → AllByRecursion (λ y. i + 1 ≤ y) xs
above_from x i [] l up = tt
above_from x i (y ∷ ys) l up = (let h = from_less x y up.0 in omega arith, above_from x i ys l up.1)

tail_within : (i n x : ℕ) (xs : List ℕ) → IsWithin i (suc n) (x ∷ xs) → IsWithin (i + 1) n xs
unfolding IsStrictlySortedBy
tail_within i n x xs p = record { rising = p.rising.1; from = above_from x i xs p.from.0 p.rising.0; below = moved i n xs p.below.1 }

whole_within : (i n x : ℕ) (xs : List ℕ) → IsWithin i (suc n) (x ∷ xs) → (x ≡ i → ⊥) → IsWithin (i + 1) n (x ∷ xs)
unfolding IsStrictlySortedBy
whole_within i n x xs p ne =
    record {
      rising = p.rising;
      from = (let h = p.from.0 in omega arith, above_from x i xs p.from.0 p.rising.0);
      below = moved i n (x ∷ xs) p.below;
    }

none_within : (i n : ℕ) → IsWithin i n []
unfolding IsStrictlySortedBy
none_within i n = record { rising = tt; from = tt; below = tt }

present : (i n x : ℕ) (xs : List ℕ) → IsWithin i (suc n) (x ∷ xs) → x ≡ i → list_any (λ r. nat_eq r i) (x ∷ xs) ≡ true
unfolding IsStrictlySortedBy
present i n x xs p e = at_first i x xs p.from.0 p.rising.0 ∙ eq-eqb x i e

lacks : (i n x : ℕ) (xs : List ℕ) → IsWithin i (suc n) (x ∷ xs) → (x ≡ i → ⊥) → list_any (λ r. nat_eq r i) (x ∷ xs) ≡ false
unfolding IsStrictlySortedBy
lacks i n x xs p ne = at_first i x xs p.from.0 p.rising.0 ∙ ne_eqb x i ne

abbrev step : Bool → Bool → Ordering → Ordering
step bx by r = ordering_then (nat_cmp (cond by 1 0) (cond bx 1 0)) r

ranks_by_digits : (n i : ℕ) (xs ys : List ℕ) → IsWithin i n xs → IsWithin i n ys → ranks_cmp xs ys ≡ exponents_cmp (exponents_from i n xs) (exponents_from i n ys)
ranks_by_digits zero i [] [] p q = refl
ranks_by_digits zero i (x ∷ xs) ys p q = let a = p.from.0 in let b = p.below.0 in absurd (omega arith)
ranks_by_digits zero i [] (y ∷ ys) p q = let a = q.from.0 in let b = q.below.0 in absurd (omega arith)
ranks_by_digits (suc n) i [] [] p q = ranks_by_digits n (i + 1) [] [] (none_within (i + 1) n) (none_within (i + 1) n)
ranks_by_digits (suc n) i [] (y ∷ ys) p q =
    let r = exponents_cmp (exponents_from (i + 1) n []) (exponents_from (i + 1) n (y ∷ ys)) in
    elim (cases_eq y i) [
      | inl e ↦ ap (λ b. step false b r) (sym (present i n y ys q e))
      | inr ne ↦ ranks_by_digits n (i + 1) [] (y ∷ ys) (none_within (i + 1) n) (whole_within i n y ys q ne) ∙ ap (λ b. step false b r) (sym (lacks i n y ys q ne))
    ]
ranks_by_digits (suc n) i (x ∷ xs) [] p q =
    let r = exponents_cmp (exponents_from (i + 1) n (x ∷ xs)) (exponents_from (i + 1) n []) in
    elim (cases_eq x i) [
      | inl e ↦ ap (λ b. step b false r) (sym (present i n x xs p e))
      | inr ne ↦ ranks_by_digits n (i + 1) (x ∷ xs) [] (whole_within i n x xs p ne) (none_within (i + 1) n) ∙ ap (λ b. step b false r) (sym (lacks i n x xs p ne))
    ]
ranks_by_digits (suc n) i (x ∷ xs) (y ∷ ys) p q =
    let r = exponents_cmp (exponents_from (i + 1) n (x ∷ xs)) (exponents_from (i + 1) n (y ∷ ys)) in
    let low = p.from.0 in
    let high = q.from.0 in
    elim (cases_eq x i) [
      | inl e ↦ elim (cases_eq y i) [
        | inl d ↦
            let tie : nat_cmp x y ≡ Equal = (let P : ℕ → Type 0 = λ m. nat_cmp x m ≡ Equal in subst P (e ∙ sym d) (tied_itself nat_cmp_total x)) in
            let lx : x < i + 1 = omega arith in
            let ly : y < i + 1 = omega arith in
            ap (λ o. ordering_then o (ranks_cmp xs ys)) tie
            ∙ ranks_by_digits n (i + 1) xs ys (tail_within i n x xs p) (tail_within i n y ys q)
            ∙ (λ j. exponents_cmp (sym (skips x (i + 1) n xs lx) j) (sym (skips y (i + 1) n ys ly) j))
            ∙ (λ j. step (sym (present i n x xs p e) j) (sym (present i n y ys q d) j) r)
        | inr nd ↦
            let l : nat_cmp x y ≡ Less = cmp_less x y (omega arith) in
            ap (λ o. ordering_then o (ranks_cmp xs ys)) l ∙ (λ j. step (sym (present i n x xs p e) j) (sym (lacks i n y ys q nd) j) r)
      ]
      | inr ne ↦ elim (cases_eq y i) [
        | inl d ↦
            let g : nat_cmp x y ≡ Greater = nat_cmp_total.antisymm x y ∙ ap ordering_reverse (cmp_less y x (omega arith)) in
            ap (λ o. ordering_then o (ranks_cmp xs ys)) g ∙ (λ j. step (sym (lacks i n x xs p ne) j) (sym (present i n y ys q d) j) r)
        | inr nd ↦
            ranks_by_digits n (i + 1) (x ∷ xs) (y ∷ ys) (whole_within i n x xs p ne) (whole_within i n y ys q nd)
            ∙ (λ j. step (sym (lacks i n x xs p ne) j) (sym (lacks i n y ys q nd) j) r)
      ]
    ]

then_assoc : (a b c : Ordering) → ordering_then (ordering_then a b) c ≡ ordering_then a (ordering_then b c)
then_assoc Less b c = refl
then_assoc Equal b c = refl
then_assoc Greater b c = refl

by_parts : (es fs xs ys : List ℕ) → length es ≡ length fs → exponents_cmp (es ++ xs) (fs ++ ys) ≡ ordering_then (exponents_cmp es fs) (exponents_cmp xs ys)
by_parts [] [] xs ys l = refl
by_parts [] (f ∷ fs) xs ys l = absurd (omega arith)
by_parts (e ∷ es) [] xs ys l = absurd (omega arith)
by_parts (e ∷ es) (f ∷ fs) xs ys l = ap (ordering_then (nat_cmp f e)) (by_parts es fs xs ys (omega arith)) ∙ sym (then_assoc (nat_cmp f e) (exponents_cmp es fs) (exponents_cmp xs ys))

-- the order of a text is by falling lists of exponents of all variables
pub text_by_exponents : (n : ℕ) (x y : Monomial) → length x.exponents ≡ length y.exponents → IsWithin 0 n x.bits → IsWithin 0 n y.bits → text_cmp x y ≡ exponents_cmp (exponent_list n x) (exponent_list n y)
text_by_exponents n x y l p q =
    ap (ordering_then (exponents_cmp x.exponents y.exponents)) (ranks_by_digits n 0 x.bits y.bits p q)
    ∙ sym (by_parts x.exponents y.exponents (exponents_from 0 n x.bits) (exponents_from 0 n y.bits) l)

all_from : (xs : List ℕ) → AllByRecursion (λ x. 0 ≤ x) xs
all_from [] = tt
all_from (x ∷ xs) = (omega arith, all_from xs)

all_below : (n : ℕ) (xs : List ℕ) → AllByRecursion (λ x. x < n) xs → AllByRecursion (λ x. x < 0 + n) xs
all_below n [] h = tt
all_below n (x ∷ xs) h = (let l = h.0 in omega arith, all_below n xs h.1)

pub IsWithin-from_ranks : (n : ℕ) (m : Monomial) → HasRanksBelow n m → IsWithin 0 n m.bits
IsWithin-from_ranks n m h = record { rising = h.rising; from = all_from m.bits; below = all_below n m.bits h.below }
