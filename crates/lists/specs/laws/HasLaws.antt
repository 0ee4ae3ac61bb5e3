-- Laws of what stands in a list, and of how often.
use Rattle.std.proofs.Common.{◌≡◌, ◌⊎◌, ◌∙◌, ap, sym, refl, inl, inr, subst, ℕ, zero, suc, ◌<◌, ◌≤◌, ◌+◌, Bool, true, false, ◌||◌, List, [], ◌∷◌, ◌++◌, length, map, take, get_or, cond, Some, All, arith}
use Rattle.std.specs.Prelude.{slice_get, ◌==◌}
use Rattle.std.specs.List.{range_with_len, AllByRecursion, list_any}
use Rattle.std.proofs.lemmas.Bool.Decides.{eqb_tells}
use Rattle.std.proofs.lemmas.Option.{slice_get-get_or, slice_get-map, slice_get_within, get_or_from_slice_get}
use Rattle.lists.specs.Lists.{Has, times}
use Rattle.lists.specs.laws.NumberLaws.{nat_eq_or}
use Rattle.lists.specs.laws.ReadLaws.{get_front}
use Rattle.lists.specs.laws.TestLaws.{one_here, none_here}

-- ---- lists of none and of one

-- an empty list has nothing
pub none_at : {X : Type 0} (y : X) → Has [] y → ⊥
none_at y has = let got = has.1 in absurd (cc)

pub none_stands : {X : Type 0} (n : ℕ) → Has [] n → X
none_stands n has = absurd (let got = has.1 in cc)

pub only_one : {X : Type 0} (x y : X) → Has (x ∷ []) y → x ≡ y
only_one x y (zero, got) = cc
only_one x y (suc k, got) = absurd (cc)

pub one_of : {X : Type 0} (x y : X) → Has (x ∷ []) y → y ≡ x
one_of x y has = sym (only_one x y has)

-- ---- lists of two parts

pub Has_cases : {X : Type 0} (xs ys : List X) (x : X) → Has (xs ++ ys) x → Has xs x ⊎ Has ys x
Has_cases [] ys x has = inr has
Has_cases (z ∷ zs) ys x (zero, got) = inl (0, got)
Has_cases (z ∷ zs) ys x (suc k, got) = elim (Has_cases zs ys x (k, got)) [ inl w ↦ inl (suc w.0, w.1) | inr w ↦ inr w ]

pub Has_left : {X : Type 0} (xs ys : List X) (x : X) → Has xs x → Has (xs ++ ys) x
Has_left xs ys x has = (has.0, get_front xs ys has.0 x has.1)

pub Has_right : {X : Type 0} (xs ys : List X) (x : X) → Has ys x → Has (xs ++ ys) x
Has_right [] ys x has = has
Has_right (z ∷ zs) ys x has = let rest = Has_right zs ys x has in (suc rest.0, rest.1)

pub Has_map : {X Y : Type 0} (f : X → Y) (xs : List X) (x : X) → Has xs x → Has (map f xs) (f x)
Has_map f xs x has = (has.0, slice_get-map f xs has.0 ∙ rw has.1 refl)

-- ---- what all have

-- what each element has, all have
pub all_from : {X : Type 0} (P : X → Type 0) (xs : List X) → ((x : X) → Has xs x → P x) → All P xs
all_from P xs each k d less = each (get_or xs k d) (k, slice_get-get_or xs k d less)

-- what all have, each element has
pub all_in : (P : ℕ → Type 0) (xs : List ℕ) (x : ℕ) → AllByRecursion P xs → Has xs x → P x
all_in P [] x all has = let got = has.1 in absurd (cc)
all_in P (y ∷ ys) x all (zero, got) = let same : y ≡ x = cc in subst P same all.0
all_in P (y ∷ ys) x all (suc k, got) = all_in P ys x all.1 (k, got)

pub All_has : {X : Type 0} (P : X → Type 0) (xs : List X) (x : X) → All P xs → Has xs x → P x
All_has P xs x all has = subst P (get_or_from_slice_get xs has.0 x x has.1) (all has.0 x (slice_get_within xs has.0 x has.1))

pub all_low : (bound : ℕ) (xs : List ℕ) → ((x : ℕ) → Has xs x → x < bound) → AllByRecursion (λ x. x < bound) xs
all_low bound [] each = tt
all_low bound (y ∷ ys) each = (each y (0, refl), all_low bound ys (λ x has. each x (suc has.0, has.1)))

-- ---- what a test finds

pub has_any : {X : Type 0} (p : X → Bool) (xs : List X) → list_any p xs ≡ true → (x : X) × Has xs x × (p x ≡ true)
has_any p [] hit = absurd (cc)
has_any p (y ∷ ys) hit =
    elim (p y) as (λ b. p y ≡ b → (b || list_any p ys) ≡ true → (x : _) × Has (y ∷ ys) x × (p x ≡ true)) [
      | true ↦ λ e h. (y, (0, refl), e)
      | false ↦ λ e h. (let rest = has_any p ys h in (rest.0, (suc rest.1.0, rest.1.1), rest.2))
    ] refl hit

pub any_has : {X : Type 0} (p : X → Bool) (xs : List X) (x : X) → Has xs x → p x ≡ true → list_any p xs ≡ true
any_has p [] x has hit = absurd (let got = has.1 in cc)
any_has p (y ∷ ys) x (zero, got) hit = let same : y ≡ x = cc in ap (λ b. b || list_any p ys) (ap p same ∙ hit)
any_has p (y ∷ ys) x (suc k, got) hit =
    let rest : list_any p ys ≡ true = any_has p ys x (k, got) hit in
    elim (p y) as (λ b. (b || list_any p ys) ≡ true) [ true ↦ refl | false ↦ rest ]

-- ---- how often

pub times_append : (n : ℕ) (xs ys : List ℕ) → times n (xs ++ ys) ≡ times n xs + times n ys
times_append n [] ys = omega arith
times_append n (x ∷ xs) ys = omega (arith, times_append n xs ys)

pub times_get : (n : ℕ) (xs : List ℕ) (k : ℕ) → slice_get xs k ≡ Some n → 1 ≤ times n xs
times_get n [] k got = absurd (cc)
times_get n (x ∷ xs) zero got = let same : x ≡ n = cc in omega (arith, one_here n x same)
times_get n (x ∷ xs) (suc k) got = omega (arith, times_get n xs k got)

pub times_two : (n : ℕ) (xs : List ℕ) (p q : ℕ) → slice_get xs p ≡ Some n → slice_get xs q ≡ Some n → p < q → 2 ≤ times n xs
times_two n [] p q first second less = absurd (cc)
times_two n (x ∷ xs) zero zero first second less = absurd (omega arith)
times_two n (x ∷ xs) zero (suc q) first second less = let same : x ≡ n = cc in omega (arith, one_here n x same, times_get n xs q second)
times_two n (x ∷ xs) (suc p) zero first second less = absurd (omega arith)
times_two n (x ∷ xs) (suc p) (suc q) first second less = omega (arith, times_two n xs p q first second (omega arith))

pub times_some : (n : ℕ) (xs : List ℕ) → 1 ≤ times n xs → Has xs n
times_some n [] some = absurd (omega arith)
times_some n (x ∷ xs) some =
    elim (eqb_tells x n) [
      | inl w ↦ (0, ap Some w.1)
      | inr w ↦ let rest = times_some n xs (omega (arith, none_here n x w.1)) in (suc rest.0, rest.1)
    ]

pub times_none : (n : ℕ) (xs : List ℕ) → (Has xs n → ⊥) → times n xs ≡ 0
times_none n xs none =
    let few : 1 ≤ times n xs → ⊥ = λ some. none (times_some n xs some) in
    omega (arith, few)

times_suc : (n : ℕ) (xs : List ℕ) (i : ℕ) → i < length xs → times n (take (suc i) xs) ≡ times n (take i xs) + cond (get_or xs i 0 == n) 1 0
times_suc n [] i less = absurd (omega arith)
times_suc n (x ∷ xs) zero less = omega arith
times_suc n (x ∷ xs) (suc i) less = omega (arith, times_suc n xs i (omega arith))

pub times_more : (n : ℕ) (xs : List ℕ) (i : ℕ) → i < length xs → times n (take (i + 1) xs) ≡ times n (take i xs) + cond (get_or xs i 0 == n) 1 0
times_more n xs i less = let e : i + 1 ≡ suc i = omega arith in rw e (times_suc n xs i less)

-- ---- numbers in a row

pub has_range : (a k n : ℕ) → a ≤ n → n < a + k → Has (range_with_len a k) n
has_range a zero n low high = absurd (omega arith)
has_range a (suc k) n low high =
    elim (nat_eq_or a n) [
      | inl same ↦ (0, ap Some same)
      | inr other ↦ let rest = has_range (a + 1) k n (omega (arith, low, other)) (omega (arith, high)) in (suc rest.0, rest.1)
    ]

pub range_has : (a k n : ℕ) → Has (range_with_len a k) n → (a ≤ n) × (n < a + k)
range_has a zero n has = let got = has.1 in absurd (cc)
range_has a (suc k) n (zero, got) = let same : a ≡ n = cc in (omega (arith, same), omega (arith, same))
range_has a (suc k) n (suc i, got) = let rest = range_has (a + 1) k n (i, got) in (omega (arith, rest.0), omega (arith, rest.1))

pub range_once : (a k n : ℕ) → a ≤ n → n < a + k → times n (range_with_len a k) ≡ 1
range_once a zero n low high = absurd (omega arith)
range_once a (suc k) n low high =
    elim (nat_eq_or a n) [
      | inl same ↦ omega (arith, one_here n a same, times_none n (range_with_len (a + 1) k) (λ has. omega (arith, (range_has (a + 1) k n has).0, same)))
      | inr other ↦ omega (arith, none_here n a other, range_once (a + 1) k n (omega (arith, low, other)) (omega (arith, high)))
    ]
