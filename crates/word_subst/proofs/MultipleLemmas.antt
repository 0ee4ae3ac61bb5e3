-- The values of multiples and products of polynomials in one word, and the order of their powers.
use Rattle.std.proofs.Common.{◌≡◌, ◌∙◌, ap, sym, refl, subst, ℕ, zero, suc, ◌<◌, ◌≤◌, ◌+◌, ◌-◌, ◌^◌, nat_lt, List, [], ◌∷◌, ◌++◌, length, take, drop, get_or, bit_xor, inl, inr, arith}
use Rattle.std.specs.Int.Bits.{xor_zero_l, xor_zero_r, xor_assoc}
use Rattle.std.proofs.lemmas.Bool.{lt-ltb, le-ltb, cond-true, cond-false, cases_lt}
use Rattle.std.proofs.lemmas.Nat.{pow_pos}
use Rattle.std.proofs.lemmas.List.{drop_more, take_more, length-map}
use Rattle.std.proofs.Math.ListN.{drop_of_length-le}
use Rattle.std.specs.List.{AllByRecursion}
use Rattle.lists.specs.laws.ListLaws.{all_append}
use Rattle.gf_field.specs.Power.{power}
use Rattle.poly_mixed.specs.Polynomial.{IsElement}
use Rattle.poly_mixed.specs.Product.{add_exponent}
use Rattle.poly_mixed.proofs.FieldLaws.{IsField}
use Rattle.poly_mixed.proofs.ValueLemmas.{power_element, product_by_zero}
use Rattle.poly_mixed.proofs.ProductLemmas.{power-add_exponent, cross, distrib_right, product_nonzero}
use Rattle.word_subst.specs.Univariate.{Powers, IsPower, IsBelow, IsRising, IsUnivariate, power_value, value_of, IsSum, IsMultiple, IsProductOfTwo}
use Rattle.word_subst.specs.Multiple.{multiplied}
use Rattle.word_subst.proofs.RisingLemmas.{rest_is}
use Rattle.word_subst.proofs.UnivariateLemmas.{xor_sum-append, power_value_element, value_of_element}

-- ---- parts of a polynomial in one word

pub all_take : {X : Type 0} (P : X → Type 0) (n : ℕ) (xs : List X) → AllByRecursion P xs → AllByRecursion P (take n xs)
all_take P zero xs all = tt
all_take P (suc n) [] all = tt
all_take P (suc n) (x ∷ xs) all = (all.0, all_take P n xs all.1)

pub all_drop : {X : Type 0} (P : X → Type 0) (n : ℕ) (xs : List X) → AllByRecursion P xs → AllByRecursion P (drop n xs)
all_drop P zero xs all = all
all_drop P (suc n) [] all = tt
all_drop P (suc n) (x ∷ xs) all = all_drop P n xs all.1

rising_take : (n : ℕ) (us : Powers) → IsRising us → IsRising (take n us)
rising_take zero us up = tt
rising_take (suc n) [] up = tt
rising_take (suc n) (u ∷ us) up = (all_take (λ t. u.0 < t.0) n us up.0, rising_take n us up.1)

rising_drop : (n : ℕ) (us : Powers) → IsRising us → IsRising (drop n us)
rising_drop zero us up = up
rising_drop (suc n) [] up = tt
rising_drop (suc n) (u ∷ us) up = rising_drop n us up.1

univariate_take : (k n : ℕ) (us : Powers) → IsUnivariate k us → IsUnivariate k (take n us)
univariate_take k n us is = record { rising = rising_take n us is.rising; powers = all_take (IsPower k) n us is.powers }

univariate_drop : (k n : ℕ) (us : Powers) → IsUnivariate k us → IsUnivariate k (drop n us)
univariate_drop k n us is = record { rising = rising_drop n us is.rising; powers = all_drop (IsPower k) n us is.powers }

whole : {X : Type 0} (n : ℕ) (xs : List X) → take n xs ++ drop n xs ≡ xs
whole zero xs = refl
whole (suc n) [] = refl
whole (suc n) (x ∷ xs) = ap (λ ys. x ∷ ys) (whole n xs)

-- the powers after the first that reaches a sum reach it too
pub reach : (b m n : ℕ) (us : Powers) → IsRising us → (n < length us → m ≤ (get_or us n (0, 0)).0 + b) → AllByRecursion (λ t. m ≤ t.0 + b) (drop n us)
reach b m n us up first = elim (cases_lt n (length us)) [
  | inl less ↦
      let P : Powers → Type 0 = λ ts. AllByRecursion (λ t. m ≤ t.0 + b) ts in
      let R : Powers → Type 0 = IsRising in
      let split = drop_more us n (0, 0) less in
      let sorted = subst R split (rising_drop n us up) in
      subst P (sym split) (first less, more (get_or us n (0, 0)).0 (drop (n + 1) us) (first less) sorted.0)
  | inr none ↦ let P : Powers → Type 0 = λ ts. AllByRecursion (λ t. m ≤ t.0 + b) ts in subst P (sym (drop_of_length-le us none)) tt
]
  where
    more : (e : ℕ) (ts : Powers) → m ≤ e + b → IsBelow e ts → AllByRecursion (λ t. m ≤ t.0 + b) ts
    more e [] least all = tt
    more e (t ∷ ts) least all = (omega (arith, least, all.0), more e ts least all.1)

-- the first powers stay below, and so does the next
pub one_low : (b m n : ℕ) (us : Powers) → n < length us → AllByRecursion (λ t. t.0 + b < m) (take n us) → (get_or us n (0, 0)).0 + b < m → AllByRecursion (λ t. t.0 + b < m) (take (n + 1) us)
one_low b m n us less all here =
    let P : Powers → Type 0 = λ ts. AllByRecursion (λ t. t.0 + b < m) ts in
    subst P (sym (take_more us n (0, 0) less)) (all_append (λ t. t.0 + b < m) (take n us) (get_or us n (0, 0) ∷ []) all (here, tt))

module _ {k : ℕ} {mul : ℕ → ℕ → ℕ} (f : IsField k mul) (by : ℕ × ℕ) (is_by : IsPower k by) where
  term_multiple : (x : ℕ) (t : ℕ × ℕ) → IsElement k x → IsPower k t → power_value mul x (add_exponent k t.0 by.0, mul by.1 t.1) ≡ mul (power_value mul x by) (power_value mul x t)
  term_multiple x t at is =
      let p = power mul x t.0 in
      let q = power mul x by.0 in
      let hp = power_element f x t.0 at in
      let hq = power_element f x by.0 at in
      ap (mul (mul by.1 t.1)) (power-add_exponent f x t.0 by.0 at ∙ f.comm p q hp hq) ∙ cross f by.1 t.1 q p is_by.element is.element hq hp

  pub value_multiplied : (x : ℕ) (us : Powers) → IsElement k x → AllByRecursion (IsPower k) us → value_of mul x (multiplied k mul by us) ≡ mul (power_value mul x by) (value_of mul x us)
  value_multiplied x [] at all = sym (product_by_zero f (power_value mul x by) (power_value_element f x by at is_by))
  value_multiplied x (t ∷ us) at all =
      (λ i. bit_xor (term_multiple x t at all.0 i) (value_multiplied x us at all.1 i))
      ∙ sym (distrib_right f (power_value mul x by) (power_value mul x t) (value_of mul x us) (power_value_element f x by at is_by) (power_value_element f x t at all.0) (value_of_element f x us at all.1))

  -- where new exponents stay in order and below 2^k
  module _ (P : ℕ → Type 0) (keeps : (d e : ℕ) → P d → P e → d < e → add_exponent k d by.0 < add_exponent k e by.0) (stays : (e : ℕ) → P e → IsElement k e → IsElement k (add_exponent k e by.0)) where
    run_below : (d : ℕ) (us : Powers) → P d → AllByRecursion (λ t. P t.0) us → IsBelow d us → IsBelow (add_exponent k d by.0) (multiplied k mul by us)
    run_below d [] here all below = tt
    run_below d (t ∷ us) here all below = (keeps d t.0 here all.0 below.0, run_below d us here all.1 below.1)

    run : (us : Powers) → AllByRecursion (λ t. P t.0) us → IsRising us → AllByRecursion (IsPower k) us → IsRising (multiplied k mul by us) × AllByRecursion (IsPower k) (multiplied k mul by us)
    run [] all up is = (tt, tt)
    run (t ∷ us) all up is =
        let rest = run us all.1 up.1 is.1 in
        let first : IsPower k (add_exponent k t.0 by.0, mul by.1 t.1) = record {
          exponent = stays t.0 all.0 is.0.exponent;
          element = f.closed by.1 t.1 is_by.element is.0.element;
          some = product_nonzero f by.1 t.1 is_by.element is.0.element is_by.some is.0.some;
        } in
        ((run_below t.0 us all.0 all.1 up.0, rest.0), (first, rest.1))

  pub low_is : (e : ℕ) → e + by.0 < 2 ^ k → add_exponent k e by.0 ≡ e + by.0
  low_is e less = cond-true (nat_lt (e + by.0) (2 ^ k)) _ _ (lt-ltb (e + by.0) (2 ^ k) less)

  pub high_is : (e : ℕ) → 2 ^ k ≤ e + by.0 → add_exponent k e by.0 ≡ e + by.0 - (2 ^ k - 1)
  high_is e most = cond-false (nat_lt (e + by.0) (2 ^ k)) _ _ (le-ltb (e + by.0) (2 ^ k) most)

  pub low_run : (us : Powers) → AllByRecursion (λ t. t.0 + by.0 < 2 ^ k) us → IsUnivariate k us → IsUnivariate k (multiplied k mul by us)
  low_run us all is =
      let both = run (λ e. e + by.0 < 2 ^ k) (λ d e low high less. omega (arith, low_is d low, low_is e high, less)) (λ e low at. omega (arith, low_is e low, low)) us all is.rising is.powers in
      record { rising = both.0; powers = both.1 }

  pub high_run : (us : Powers) → AllByRecursion (λ t. 2 ^ k ≤ t.0 + by.0) us → IsUnivariate k us → IsUnivariate k (multiplied k mul by us)
  high_run us all is =
      let pos = pow_pos k in
      let both = run (λ e. 2 ^ k ≤ e + by.0) (λ d e low high less. omega (arith, high_is d low, high_is e high, less, pos, low, high)) (λ e low at. omega (arith, high_is e low, low, at, is_by.exponent, pos)) us all is.rising is.powers in
      record { rising = both.0; powers = both.1 }

  pub shifted_is : (n : ℕ) (us all first last low high new : Powers) → IsUnivariate k us → all ≡ us → first ≡ take n all → last ≡ take (length all - n) (drop n all) → AllByRecursion (λ t. t.0 + by.0 < 2 ^ k) (take n all) → (n < length all → 2 ^ k ≤ (get_or all n (0, 0)).0 + by.0)
      → low ≡ multiplied k mul by first → high ≡ multiplied k mul by last → (IsUnivariate k low × IsUnivariate k high) × (IsSum k mul low high new → IsMultiple k mul by us new)
  shifted_is n us all first last low high new is all_is first_is last_is below above low_made high_made =
      let U : Powers → Type 0 = IsUnivariate k in
      let here : IsUnivariate k all = subst U (sym all_is) is in
      let low_all : low ≡ multiplied k mul by (take n all) = low_made ∙ ap (multiplied k mul by) first_is in
      let high_all : high ≡ multiplied k mul by (drop n all) = high_made ∙ ap (multiplied k mul by) (last_is ∙ rest_is n all) in
      let before = univariate_take k n all here in
      let after = univariate_drop k n all here in (
        (subst U (sym low_all) (low_run (take n all) below before), subst U (sym high_all) (high_run (drop n all) (reach by.0 (2 ^ k) n all here.rising above) after)),
        λ sum. record {
          univariate = sum.univariate;
          values = λ x at.
              let v = power_value mul x by in
              let a = value_of mul x (take n all) in
              let b = value_of mul x (drop n all) in
              sum.values x at
              ∙ ((λ i. bit_xor ((ap (value_of mul x) low_all ∙ value_multiplied x (take n all) at before.powers) i) ((ap (value_of mul x) high_all ∙ value_multiplied x (drop n all) at after.powers) i))
              ∙ (sym (distrib_right f v a b (power_value_element f x by at is_by) (value_of_element f x (take n all) at before.powers) (value_of_element f x (drop n all) at after.powers))
              ∙ ap (mul v) (sym (xor_sum-append (power_value mul x) (take n all) (drop n all)) ∙ ap (value_of mul x) (whole n all ∙ all_is))));
        },
      )

module _ {k : ℕ} {mul : ℕ → ℕ → ℕ} (f : IsField k mul) where
  all_within : (us : Powers) → AllByRecursion (IsPower k) us → AllByRecursion (λ t. t.0 + 0 < 2 ^ k) us
  all_within [] all = tt
  all_within (t ∷ us) all = (omega (arith, all.0.exponent), all_within us all.1)

  pub scaled_is : (c : ℕ) (us all new : Powers) → IsPower k (0, c) → IsUnivariate k us → all ≡ us → new ≡ multiplied k mul (0, c) all → IsMultiple k mul (0, c) us new × (length new ≡ length us)
  scaled_is c us all new by is all_is made =
      let same : new ≡ multiplied k mul (0, c) us = made ∙ ap (multiplied k mul (0, c)) all_is in
      let P : Powers → Type 0 = λ ts. IsMultiple k mul (0, c) us ts × (length ts ≡ length us) in
      subst P (sym same) (record { univariate = low_run f (0, c) by us (all_within us is.powers) is; values = λ x at. value_multiplied f (0, c) by x us at is.powers }, length-map us (λ t. (add_exponent k t.0 0, mul c t.1)))

  pub product_end : (us vs new : Powers) (n : ℕ) → IsUnivariate k us → length vs ≤ n → IsUnivariate k new
      → ((x : ℕ) → IsElement k x → bit_xor (value_of mul x new) (mul (value_of mul x us) (value_of mul x (drop n vs))) ≡ mul (value_of mul x us) (value_of mul x vs)) → IsProductOfTwo k mul us vs new
  product_end us vs new n left done is so_far = record {
    univariate = is;
    values = λ x at.
        let none : drop n vs ≡ [] = drop_of_length-le vs done in
        sym (ap (λ ts. bit_xor (value_of mul x new) (mul (value_of mul x us) (value_of mul x ts))) none
        ∙ (ap (bit_xor (value_of mul x new)) (product_by_zero f (value_of mul x us) (value_of_element f x us at left.powers)) ∙ xor_zero_r (value_of mul x new)))
        ∙ so_far x at;
  }

  -- the sum of the multiples by the first powers, of which there are none, and with one more
  module _ (us vs items : Powers) (left : IsUnivariate k us) (right : IsUnivariate k vs) (same : items ≡ vs) where
    pub no_multiples : (out : Powers) → out ≡ [] → IsUnivariate k out × ((x : ℕ) → IsElement k x → bit_xor (value_of mul x out) (mul (value_of mul x us) (value_of mul x (drop 0 vs))) ≡ mul (value_of mul x us) (value_of mul x vs))
    no_multiples out none =
        let P : Powers → Type 0 = λ ts. IsUnivariate k ts × ((x : ℕ) → IsElement k x → bit_xor (value_of mul x ts) (mul (value_of mul x us) (value_of mul x (drop 0 vs))) ≡ mul (value_of mul x us) (value_of mul x vs)) in
        subst P (sym none) (record { rising = tt; powers = tt }, λ x at. xor_zero_l (mul (value_of mul x us) (value_of mul x vs)))

    pub power_at : (i : ℕ) → i < length items → IsPower k (get_or items i (0, 0))
    power_at i less =
        let P : Powers → Type 0 = AllByRecursion (IsPower k) in
        let rest = subst P (drop_more items i (0, 0) less) (all_drop (IsPower k) i items (subst P (sym same) right.powers)) in
        rest.0

    pub more_multiples : (i : ℕ) (out part new : Powers) → i < length items → IsMultiple k mul (get_or items i (0, 0)) us part → IsSum k mul out part new
        → ((x : ℕ) → IsElement k x → bit_xor (value_of mul x out) (mul (value_of mul x us) (value_of mul x (drop i vs))) ≡ mul (value_of mul x us) (value_of mul x vs))
        → (x : ℕ) → IsElement k x → bit_xor (value_of mul x new) (mul (value_of mul x us) (value_of mul x (drop (i + 1) vs))) ≡ mul (value_of mul x us) (value_of mul x vs)
    more_multiples i out part new less multiple sum so_far x at =
        let t : ℕ × ℕ = get_or items i (0, 0) in
        let rest : Powers = drop (i + 1) vs in
        let l : ℕ = value_of mul x us in
        let p : ℕ = power_value mul x t in
        let v : ℕ = value_of mul x rest in
        let o : ℕ = value_of mul x out in
        let hl = value_of_element f x us at left.powers in
        let hp = power_value_element f x t at (power_at i less) in
        let hv = value_of_element f x rest at (all_drop (IsPower k) (i + 1) vs right.powers) in
        let P : Powers → Type 0 = λ ts. drop i ts ≡ t ∷ drop (i + 1) ts in
        let split : drop i vs ≡ t ∷ rest = subst P same (drop_more items i (0, 0) less) in
        ap (λ n. bit_xor n (mul l v)) (sum.values x at ∙ ap (bit_xor o) (multiple.values x at ∙ f.comm p l hp hl))
        ∙ (xor_assoc o (mul l p) (mul l v)
        ∙ (ap (bit_xor o) (sym (distrib_right f l p v hl hp hv))
        ∙ (ap (λ ts. bit_xor o (mul l (value_of mul x ts))) (sym split) ∙ so_far x at)))

  -- the factors may change places
  pub product_swapped : (us vs new : Powers) → IsUnivariate k us → IsUnivariate k vs → IsProductOfTwo k mul vs us new → IsProductOfTwo k mul us vs new
  product_swapped us vs new left right is = record {
    univariate = is.univariate;
    values = λ x at. is.values x at ∙ f.comm (value_of mul x vs) (value_of mul x us) (value_of_element f x vs at right.powers) (value_of_element f x us at left.powers);
  }
