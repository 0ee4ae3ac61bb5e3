-- Slots in rising lists, as a binary search finds them.
use Rattle.std.proofs.Common.{◌≡◌, ℕ, zero, suc, ◌<◌, ◌≤◌, ◌-◌, true, false, List, [], ◌∷◌, ◌++◌, length, get_or, nat_eq, nat_lt, ◌==◌, refl, sym, ap, arith, Result, Ok, Err, subst}
use Rattle.std.specs.List.{insert, remove}
use Rattle.std.specs.List.Sorted.{IsStrictlySortedBy, IsBinarySearchResult}
use Rattle.std.specs.Ordering.{nat_cmp}
use Rattle.std.proofs.lemmas.Bool.{lt-ltb, ltb-true, ltb-false, ne_eqb, eq-eqb}
use Rattle.std.proofs.lemmas.List.Sorted.{searched}
use Rattle.std.proofs.lemmas.Map.Keys.{below_from_sorted}
use Rattle.lists.specs.laws.TestLaws.{not_less}
use Rattle.poly_mixed.specs.Product.{with_rank}
use Rattle.poly_mixed.specs.private.Listed.{without_slot, IsGap, IsHit, IsFound}
use Rattle.poly_mixed.proofs.RankLemmas.{Above, from_less}

rest_gap : (y : ℕ) (ys : List ℕ) (i x : ℕ) → IsGap (y ∷ ys) (suc i) x → IsGap ys i x
rest_gap y ys i x g = record { within = omega (arith, g.within); below = λ k b. g.below (suc k) (omega (arith, b)); above = λ k b c. g.above (suc k) (omega (arith, b)) (omega (arith, c)) }

rest_above : (y : ℕ) (ys : List ℕ) (x : ℕ) → IsGap (y ∷ ys) 0 x → IsGap ys 0 x
rest_above y ys x g = record { within = omega arith; below = λ k b. absurd (omega (arith, b)); above = λ k b c. g.above (suc k) (omega arith) (omega (arith, c)) }

-- a slot that is not there goes to its place
pub with_rank-insert : (xs : List ℕ) (i x : ℕ) → IsGap xs i x → with_rank xs x ≡ insert xs i x
with_rank-insert [] zero x g = refl
with_rank-insert [] (suc i) x g = absurd (omega (arith, g.within))
with_rank-insert (y ∷ ys) zero x g = rw (lt-ltb x y (g.above 0 (omega arith) (omega arith))) refl
with_rank-insert (y ∷ ys) (suc i) x g =
    let l : y < x = g.below 0 (omega arith) in
    let n : nat_lt x y ≡ false = not_less x y (omega (arith, l)) in
    let e : (x == y) ≡ false = ne_eqb x y (λ e. omega (arith, l, e)) in
    rw n (rw e (ap (λ zs. y ∷ zs) (with_rank-insert ys i x (rest_gap y ys i x g))))

-- and nothing is taken out
pub without_slot-gap : (xs : List ℕ) (i x : ℕ) → IsGap xs i x → without_slot x xs ≡ xs
without_slot-gap [] i x g = refl
without_slot-gap (y ∷ ys) zero x g =
    let l : x < y = g.above 0 (omega arith) (omega arith) in
    let e : nat_eq y x ≡ false = ne_eqb y x (λ e. omega (arith, l, e)) in
    rw e (ap (λ zs. y ∷ zs) (without_slot-gap ys zero x (rest_above y ys x g)))
without_slot-gap (y ∷ ys) (suc i) x g =
    let l : y < x = g.below 0 (omega arith) in
    let e : nat_eq y x ≡ false = ne_eqb y x (λ e. omega (arith, l, e)) in
    rw e (ap (λ zs. y ∷ zs) (without_slot-gap ys i x (rest_gap y ys i x g)))

all_above : (ys : List ℕ) (y : ℕ) → Above y ys → (k : ℕ) → k < length ys → y < get_or ys k 0
all_above [] y up k h = absurd (omega (arith, h))
all_above (z ∷ zs) y up zero h = from_less y z up.0
all_above (z ∷ zs) y up (suc k) h = all_above zs y up.1 k (omega (arith, h))

-- the items past the first of a rising list are above it
gap_after : (y : ℕ) (ys : List ℕ) → Above y ys → IsGap ys 0 y
gap_after y ys up = record { within = omega arith; below = λ k b. absurd (omega (arith, b)); above = λ k b c. all_above ys y up k c }

-- one that is there stays alone
pub with_rank-there : (xs : List ℕ) (i x : ℕ) → IsStrictlySortedBy nat_cmp xs → IsHit xs i x → with_rank xs x ≡ xs
unfolding IsStrictlySortedBy
with_rank-there [] i x s h = absurd (omega (arith, h.within))
with_rank-there (y ∷ ys) zero x s h =
    let n : nat_lt x y ≡ false = not_less x y (omega (arith, h.same)) in
    let e : (x == y) ≡ true = eq-eqb x y (sym h.same) in
    rw n (rw e refl)
with_rank-there (y ∷ ys) (suc i) x s h =
    let w : i < length ys = omega (arith, h.within) in
    let l : y < get_or ys i 0 = all_above ys y s.0 i w in
    let same : get_or ys i 0 ≡ x = h.same in
    let n : nat_lt x y ≡ false = not_less x y (omega (arith, l, same)) in
    let e : (x == y) ≡ false = ne_eqb x y (λ e. omega (arith, l, e, same)) in
    rw n (rw e (ap (λ zs. y ∷ zs) (with_rank-there ys i x s.1 (record { within = w; same = same }))))

-- one that is there is taken out
pub without_slot-there : (xs : List ℕ) (i x : ℕ) → IsStrictlySortedBy nat_cmp xs → IsHit xs i x → without_slot x xs ≡ remove xs i
unfolding IsStrictlySortedBy
without_slot-there [] i x s h = absurd (omega (arith, h.within))
without_slot-there (y ∷ ys) zero x s h =
    let e : nat_eq y x ≡ true = eq-eqb y x h.same in
    let P : ℕ → Type 0 = λ n. IsGap ys 0 n in
    rw e (without_slot-gap ys 0 x (subst P h.same (gap_after y ys s.0)))
without_slot-there (y ∷ ys) (suc i) x s h =
    let w : i < length ys = omega (arith, h.within) in
    let l : y < get_or ys i 0 = all_above ys y s.0 i w in
    let same : get_or ys i 0 ≡ x = h.same in
    let e : nat_eq y x ≡ false = ne_eqb y x (λ e. omega (arith, l, e, same)) in
    rw e (ap (λ zs. y ∷ zs) (without_slot-there ys i x s.1 (record { within = w; same = same })))

rises : (xs : List ℕ) → IsStrictlySortedBy nat_cmp xs → (i j : ℕ) → i ≤ j → j < length xs → get_or xs i 0 ≤ get_or xs j 0
rises xs s i j h k = elim (nat_lt i j) as (λ b. nat_lt i j ≡ b → get_or xs i 0 ≤ get_or xs j 0) [
  | true ↦ λ e. let l : get_or xs i 0 < get_or xs j 0 = below_from_sorted xs i j 0 s (ltb-true i j e) k in omega (arith, l)
  | false ↦ λ e. let same : i ≡ j = omega (arith, ltb-false i j e, h) in let P : ℕ → Type 0 = λ n. get_or xs i 0 ≤ get_or xs n 0 in subst P same (omega arith)
] refl

-- a slot past the last one goes to the end
pub with_rank-past : (xs : List ℕ) (x : ℕ) → IsGap xs (length xs) x → with_rank xs x ≡ xs ++ x ∷ []
with_rank-past [] x g = refl
with_rank-past (y ∷ ys) x g =
    let l : y < x = g.below 0 (omega arith) in
    let n : nat_lt x y ≡ false = not_less x y (omega (arith, l)) in
    let e : (x == y) ≡ false = ne_eqb x y (λ e. omega (arith, l, e)) in
    rw n (rw e (ap (λ zs. y ∷ zs) (with_rank-past ys x (rest_gap y ys (length ys) x g))))

-- a slot that is larger than the last one is larger than each
pub past_last : (xs : List ℕ) (x : ℕ) → IsStrictlySortedBy nat_cmp xs → nat_lt (get_or xs (length xs - 1) 0) x ≡ true → IsGap xs (length xs) x
past_last xs x s e =
    let l : get_or xs (length xs - 1) 0 < x = ltb-true (get_or xs (length xs - 1) 0) x e in
    record {
      within = omega arith;
      below = λ k b. let h : get_or xs k 0 ≤ get_or xs (length xs - 1) 0 = rises xs s k (length xs - 1) (omega (arith, b)) (omega (arith, b)) in omega (arith, h, l);
      above = λ k a b. absurd (omega (arith, a, b));
    }

-- what `binary_search` answers
pub is_found : (xs : List ℕ) (x : ℕ) (r : Result ℕ ℕ) → IsStrictlySortedBy nat_cmp xs → IsBinarySearchResult (λ y. nat_cmp y x) xs r → IsFound xs x r
is_found xs x (Ok i) s b = let h = searched xs x (Ok i) b (rises xs s) in record { within = h.0; same = h.1 }
is_found xs x (Err i) s b = let h = searched xs x (Err i) b (rises xs s) in record { within = h.0; below = h.1; above = h.2 }
