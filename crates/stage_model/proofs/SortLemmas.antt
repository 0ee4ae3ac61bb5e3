-- Places by rising key, and then by rising number.
use Rattle.std.proofs.Common.{◌≡◌, ◌∙◌, ap, sym, refl, subst, inl, inr, ℕ, zero, suc, ◌<◌, ◌≤◌, ◌+◌, true, false, cond, List, [], ◌∷◌, length, Some, arith}
use Rattle.std.specs.Prelude.{slice_get}
use Rattle.std.specs.List.{AllByRecursion}
use Rattle.std.proofs.Math.Dec.{ltb}
use Rattle.std.proofs.lemmas.Bool.{ltb-true, ltb-false, cases_order}
use Rattle.lists.specs.Lists.{Has}
use Rattle.lists.specs.laws.HasLaws.{all_in}
use Rattle.net_core.specs.Order.{IsBefore}

all_more : (P Q : ℕ → Type 0) → ((x : ℕ) → P x → Q x) → (xs : List ℕ) → AllByRecursion P xs → AllByRecursion Q xs
all_more P Q f [] all = tt
all_more P Q f (x ∷ xs) all = (f x all.0, all_more P Q f xs all.1)

module _ (key : ℕ → ℕ) where
  abbrev pub Lower : ℕ → ℕ → Type 0
  Lower p q = IsBefore (key p) p (key q) q

  abbrev pub Rises : List ℕ → Type 0
  Rises [] = Unit {0}
  Rises (x ∷ xs) = AllByRecursion (Lower x) xs × Rises xs

  put : ℕ → List ℕ → List ℕ
  put n [] = n ∷ []
  put n (x ∷ xs) = cond (ltb (key n) (key x)) (n ∷ x ∷ xs) (x ∷ put n xs)

  pub sorted : ℕ → List ℕ
  sorted zero = []
  sorted (suc n) = put n (sorted n)

  lower_on : (p q r : ℕ) → Lower p q → Lower q r → Lower p r
  lower_on p q r first second = grind arith

  put_long : (n : ℕ) (xs : List ℕ) → length (put n xs) ≡ suc (length xs)
  unfolding put
  put_long n [] = refl
  put_long n (x ∷ xs) = elim (ltb (key n) (key x)) as (λ b. length (cond b (n ∷ x ∷ xs) (x ∷ put n xs)) ≡ suc (suc (length xs))) [ true ↦ refl | false ↦ ap suc (put_long n xs) ]

  put_all : (P : ℕ → Type 0) (n : ℕ) (xs : List ℕ) → P n → AllByRecursion P xs → AllByRecursion P (put n xs)
  unfolding put
  put_all P n [] own all = (own, tt)
  put_all P n (x ∷ xs) own all = elim (ltb (key n) (key x)) as (λ b. AllByRecursion P (cond b (n ∷ x ∷ xs) (x ∷ put n xs))) [ true ↦ (own, all) | false ↦ (all.0, put_all P n xs own all.1) ]

  put_has : (n : ℕ) (xs : List ℕ) → Has (put n xs) n
  unfolding put
  put_has n [] = (0, refl)
  put_has n (x ∷ xs) = elim (ltb (key n) (key x)) as (λ b. Has (cond b (n ∷ x ∷ xs) (x ∷ put n xs)) n) [ true ↦ (0, refl) | false ↦ let rest = put_has n xs in (suc rest.0, rest.1) ]

  put_keeps : (n m : ℕ) (xs : List ℕ) → Has xs m → Has (put n xs) m
  unfolding put
  put_keeps n m [] has = let got = has.1 in absurd (cc)
  put_keeps n m (x ∷ xs) has = elim (ltb (key n) (key x)) as (λ b. Has (cond b (n ∷ x ∷ xs) (x ∷ put n xs)) m) [ true ↦ (suc has.0, has.1) | false ↦ behind has (λ later. put_keeps n m xs later) ]
    where
      behind : Has (x ∷ xs) m → (Has xs m → Has (put n xs) m) → Has (x ∷ put n xs) m
      behind (zero, got) more = (0, got)
      behind (suc k, got) more = let rest = more (k, got) in (suc rest.0, rest.1)

  put_rises : (n : ℕ) (xs : List ℕ) → AllByRecursion (λ x. x < n) xs → Rises xs → Rises (put n xs)
  unfolding put
  put_rises n [] less up = (tt, tt)
  put_rises n (x ∷ xs) less up =
      elim (ltb (key n) (key x)) as (λ b. ltb (key n) (key x) ≡ b → Rises (cond b (n ∷ x ∷ xs) (x ∷ put n xs))) [
        | true ↦ λ e.
            let low : Lower n x = inl (ltb-true (key n) (key x) e) in
            ((low, all_more (Lower x) (Lower n) (λ y next. lower_on n x y low next) xs up.0), up)
        | false ↦ λ e.
            let high : Lower x n = after (ltb-false (key n) (key x) e) less.0 in
            (put_all (Lower x) n xs high up.0, put_rises n xs less.1 up.1)
      ] refl
    where
      after : key x ≤ key n → x < n → Lower x n
      after low place = grind arith

  pub record IsSortedTo (n : ℕ) (xs : List ℕ) : Type 0 where
    pub long : length xs ≡ n
    pub inside : AllByRecursion (λ x. x < n) xs
    pub whole : (x : ℕ) → x < n → Has xs x
    pub rises : Rises xs

  pub sorted_is : (n : ℕ) → IsSortedTo n (sorted n)
  unfolding sorted
  sorted_is zero = record { long = refl; inside = tt; whole = λ x less. absurd (omega arith); rises = tt }
  sorted_is (suc n) =
      let rest = sorted_is n in
      record {
        long = put_long n (sorted n) ∙ ap suc rest.long;
        inside = put_all (λ x. x < suc n) n (sorted n) (omega arith) (all_more (λ x. x < n) (λ x. x < suc n) (λ x less. omega arith) (sorted n) rest.inside);
        whole = λ x less. elim (cases_order x n) [
          | inl same ↦ let P : ℕ → Type 0 = Has (put n (sorted n)) in subst P (sym same) (put_has n (sorted n))
          | inr other ↦ elim other [ inl low ↦ put_keeps n x (sorted n) (rest.whole x low) | inr high ↦ absurd (omega arith) ]
        ];
        rises = put_rises n (sorted n) rest.inside rest.rises;
      }

  -- each place is lower than the next
  pub next : (xs : List ℕ) (i p q : ℕ) → Rises xs → slice_get xs i ≡ Some p → slice_get xs (i + 1) ≡ Some q → Lower p q
  next [] i p q up first second = absurd (cc)
  next (x ∷ xs) zero p q up first second =
      let same : x ≡ p = cc in
      let P : ℕ → Type 0 = λ y. Lower y q in
      subst P same (all_in (Lower x) xs q up.0 (0, second))
  next (x ∷ xs) (suc i) p q up first second =
      let e : suc i + 1 ≡ suc (i + 1) = omega arith in
      let P : ℕ → Type 0 = λ j. slice_get (x ∷ xs) j ≡ Some q in
      next xs i p q up.1 first (subst P e second)
