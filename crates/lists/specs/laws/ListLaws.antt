-- Laws of lists as a whole: how long they are, their images, and what all of their elements have.
use Rattle.std.proofs.Common.{◌≡◌, ap, refl, ℕ, zero, suc, ◌<◌, ◌≤◌, ◌+◌, Bool, true, false, ◌||◌, cond, List, [], ◌∷◌, ◌++◌, length, map, filter, replicate, Some, arith, if◌then◌else◌}
use Rattle.std.specs.Prelude.{slice_get, slice_set, ◌==◌}
use Rattle.std.specs.List.{range_with_len, AllByRecursion, list_any}
use Rattle.std.proofs.lemmas.Bool.{eq-eqb}

-- what stands behind the same front is the same
pub append_same : {A : Type 0} (p xs ys : List A) → p ++ xs ≡ p ++ ys → xs ≡ ys
append_same [] xs ys same = same
append_same {A} (b ∷ p) xs ys same = append_same p xs ys (tails same)
  where
    tails : {v w : List A} → b ∷ v ≡ b ∷ w → v ≡ w
    tails e = cc

-- ---- how long

-- a list of images is as long
pub length_map : {A B : Type 0} (f : A → B) (xs : List A) → length (map f xs) ≡ length xs
length_map f [] = refl
length_map f (x ∷ xs) = ap suc (length_map f xs)

pub length-push : {A : Type 0} (xs : List A) (y : A) → length (xs ++ y ∷ []) ≡ length xs + 1
length-push [] y = refl
length-push (x ∷ xs) y = omega (arith, length-push xs y)

pub length_more : {A : Type 0} (xs : List A) (y : A) → length (xs ++ y ∷ []) ≡ suc (length xs)
length_more xs y = omega (arith, length-push xs y)

pub some_after : {A : Type 0} (xs ys : List A) → 1 ≤ length ys → 1 ≤ length (xs ++ ys)
some_after [] ys some = some
some_after (x ∷ xs) ys some = omega arith

pub length-slice_set : (xs : List ℕ) (i x : ℕ) → length (slice_set xs i x) ≡ length xs
length-slice_set [] i x = refl
length-slice_set (y ∷ ys) zero x = refl
length-slice_set (y ∷ ys) (suc i) x = ap suc (length-slice_set ys i x)

pub filter_few : {A : Type 0} (test : A → Bool) (xs : List A) → length (filter test xs) ≤ length xs
filter_few test [] = omega arith
filter_few test (x ∷ xs) = parts (test x) refl (filter_few test xs)
  where
    parts : (b : Bool) → test x ≡ b → length (filter test xs) ≤ length xs → length (filter test (x ∷ xs)) ≤ suc (length xs)
    parts true is less = omega (arith, less, ap (λ c. length (if c then x ∷ filter test xs else filter test xs)) is)
    parts false is less = omega (arith, less, ap (λ c. length (if c then x ∷ filter test xs else filter test xs)) is)

-- a list of two
pub two_lists : (lists : List (List ℕ)) → length lists ≡ 2 → (first : List ℕ) × (second : List ℕ) × (lists ≡ first ∷ second ∷ [])
two_lists [] long = absurd (omega arith)
two_lists (a ∷ []) long = absurd (omega arith)
two_lists (a ∷ b ∷ []) long = (a, b, refl)
two_lists (a ∷ b ∷ c ∷ more) long = absurd (omega arith)

-- ---- one more element

-- the images with one more element
pub map_push : {A B : Type 0} (g : A → B) (xs : List A) (x : A) → map g (xs ++ x ∷ []) ≡ map g xs ++ g x ∷ []
map_push g [] x = refl
map_push g (y ∷ ys) x = ap (λ zs. g y ∷ zs) (map_push g ys x)

-- one number more
pub range_more : (a n : ℕ) → range_with_len a (suc n) ≡ range_with_len a n ++ (a + n) ∷ []
range_more a zero = let same : a + 0 ≡ a = omega arith in rw same refl
range_more a (suc n) = let same : a + suc n ≡ (a + 1) + n = omega arith in rw same (ap (λ (xs : List ℕ). a ∷ xs) (range_more (a + 1) n))

pub replicate_more : {X : Type 0} (x : X) (n : ℕ) → replicate n x ++ x ∷ [] ≡ replicate (suc n) x
replicate_more x zero = refl
replicate_more x (suc n) = ap (λ (xs : List _). x ∷ xs) (replicate_more x n)

-- ---- all elements

-- what all have, those that are kept have
pub all_filter : (P : ℕ → Type 0) (g : ℕ → Bool) (xs : List ℕ) → AllByRecursion P xs → AllByRecursion P (filter g xs)
all_filter P g [] all = tt
all_filter P g (x ∷ xs) all = elim (g x) as (λ b. AllByRecursion P (cond b (x ∷ filter g xs) (filter g xs))) [ true ↦ (all.0, all_filter P g xs all.1) | false ↦ all_filter P g xs all.1 ]

pub all_append : {A : Type 0} (P : A → Type 0) (xs ys : List A) → AllByRecursion P xs → AllByRecursion P ys → AllByRecursion P (xs ++ ys)
all_append P [] ys all more = more
all_append P (x ∷ xs) ys all more = (all.0, all_append P xs ys all.1 more)

pub all_below : (count : ℕ) (rs : List ℕ) → ((k r : ℕ) → slice_get rs k ≡ Some r → r < count) → AllByRecursion (λ r. r < count) rs
all_below count [] each = tt
all_below count (r ∷ rs) each = (each 0 r refl, all_below count rs (λ k q got. each (suc k) q got))

-- a number that stands in the list is found
pub any_equal : (rank : ℕ) (rs : List ℕ) (k : ℕ) → slice_get rs k ≡ Some rank → list_any (λ r. r == rank) rs ≡ true
any_equal rank [] k got = absurd (cc)
any_equal rank (r ∷ rs) zero got = let same : r ≡ rank = cc in ap (λ b. b || list_any (λ q. q == rank) rs) (eq-eqb r rank same)
any_equal rank (r ∷ rs) (suc k) got = elim (r == rank) as (λ b. (b || list_any (λ q. q == rank) rs) ≡ true) [ true ↦ refl | false ↦ any_equal rank rs k got ]
