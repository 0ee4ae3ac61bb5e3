-- Polynomials in one word that are gathered from powers in any order, and how many powers they have.
use Rattle.std.proofs.Common.{◌≡◌, ◌∙◌, sym, ℕ, suc, ◌<◌, ◌≤◌, ◌+◌, ◌^◌, [], ◌∷◌, ◌++◌, length, bit_xor, arith}
use Rattle.std.specs.Int.Bits.{xor_zero_l, xor_lt}
use Rattle.std.specs.declared.cmp.Ordering.TheVariants.{Less, Equal}
use Rattle.std.specs.Cmp.{nat_cmp_total, ranked}
use Rattle.std.specs.Ordering.{nat_cmp}
use Rattle.std.specs.List.{AllByRecursion}
use Rattle.std.specs.List.Sorted.{IsStrictlySortedBy}
use Rattle.std.specs.Map.{keys_of}
use Rattle.std.proofs.lemmas.Nat.{pow_pos}
use Rattle.gf_field.specs.Power.{power}
use Rattle.poly_mixed.specs.Polynomial.{IsElement}
use Rattle.poly_mixed.specs.Product.{add_exponent}
use Rattle.poly_mixed.specs.Sum.{plus}
use Rattle.poly_mixed.proofs.FieldLaws.{IsField}
use Rattle.poly_mixed.proofs.ProductLemmas.{distrib_right, product_nonzero}
use Rattle.poly_mixed.proofs.RankLemmas.{from_less}
use Rattle.poly_mixed.proofs.SumLemmas.{IsAdditive, sorted-plus, all_plus, xor_sum-plus}
use Rattle.poly_mixed.proofs.ValueLemmas.{power_element, product_zero, product_by_zero}
use Rattle.word_subst.specs.Univariate.{Powers, IsPower, IsBelow, IsRising, IsUnivariate, power_value, value_of, IsProductOfTwo}
use Rattle.word_subst.specs.Multiple.{multiplied}
use Rattle.word_subst.proofs.UnivariateLemmas.{xor_sum-append, power_value_element, value_of_element}
use Rattle.word_subst.proofs.MultipleLemmas.{value_multiplied, low_is, high_is}
use Rattle.std.proofs.lemmas.Bool.{cases_lt}
use Rattle.std.proofs.Common.{inl, inr}
use Rattle.lists.specs.laws.ListLaws.{all_append}

below_of : (e : ℕ) (us : Powers) → AllByRecursion (λ y. nat_cmp e y ≡ Less) (keys_of us) → IsBelow e us
below_of e [] all = tt
below_of e (u ∷ us) all = (from_less e u.0 all.0, below_of e us all.1)

rising_of : (us : Powers) → IsStrictlySortedBy nat_cmp (keys_of us) → IsRising us
unfolding IsStrictlySortedBy
rising_of [] up = tt
rising_of (u ∷ us) up = (below_of u.0 us up.0, rising_of us up.1)

none_sorted : IsStrictlySortedBy nat_cmp (keys_of {K = ℕ} {X = ℕ} [])
unfolding IsStrictlySortedBy
none_sorted = tt

-- rising exponents from a on and below b are no more than these numbers
few_rising : (a b : ℕ) (us : Powers) → a ≤ b → IsRising us → AllByRecursion (λ t. a ≤ t.0) us → AllByRecursion (λ t. t.0 < b) us → length us + a ≤ b
few_rising a b [] less up least most = omega arith
few_rising a b (u ∷ us) less up least most =
    let rest : length us + suc u.0 ≤ b = few_rising (suc u.0) b us (omega (arith, most.0)) up.1 (above us up.0) most.1 in
    omega (arith, rest, least.0)
  where
    above : (vs : Powers) → IsBelow u.0 vs → AllByRecursion (λ t. suc u.0 ≤ t.0) vs
    above [] all = tt
    above (v ∷ vs) all = (omega (arith, all.0), above vs all.1)

-- a polynomial in one word has at most 2^k powers
pub few_powers : (k : ℕ) (us : Powers) → IsUnivariate k us → length us ≤ 2 ^ k
few_powers k us is = omega (arith, few_rising 0 (2 ^ k) us (omega arith) is.rising (least us) (most us is.powers))
  where
    least : (vs : Powers) → AllByRecursion (λ t. 0 ≤ t.0) vs
    least [] = tt
    least (v ∷ vs) = (omega arith, least vs)

    most : (vs : Powers) → AllByRecursion (IsPower k) vs → AllByRecursion (λ t. t.0 < 2 ^ k) vs
    most [] all = tt
    most (v ∷ vs) all = (all.0.exponent, most vs all.1)

module _ {k : ℕ} {mul : ℕ → ℕ → ℕ} (f : IsField k mul) where
  -- powers in any order as a polynomial
  pub gathered_powers : (us : Powers) → AllByRecursion (IsPower k) us → IsUnivariate k (plus nat_cmp [] us)
  gathered_powers us all = record {
    rising = rising_of (plus nat_cmp [] us) (sorted-plus nat_cmp nat_cmp_total [] us none_sorted);
    powers = all_plus nat_cmp (IsPower k) (λ t u h g n. record { exponent = h.exponent; element = xor_lt k t.1 u.1 h.element g.element; some = n }) [] us tt all;
  }

  elements : (us : Powers) → AllByRecursion (IsPower k) us → AllByRecursion (λ t. IsElement k t.1) us
  elements [] all = tt
  elements (u ∷ us) all = (all.0.element, elements us all.1)

  additive : (x : ℕ) → IsElement k x → IsAdditive (IsElement k) (power_value mul x)
  additive x at = record {
    sums = λ e c d hc hd. f.distrib c d (power mul x e) hc hd (power_element f x e at);
    none = λ e. product_zero f (power mul x e) (power_element f x e at);
  }

  -- it has their values
  pub gathered_at : (x : ℕ) (us : Powers) → IsElement k x → AllByRecursion (IsPower k) us → value_of mul x (plus nat_cmp [] us) ≡ value_of mul x us
  gathered_at x us at all =
      xor_sum-plus nat_cmp (λ a b same. ranked a b Equal (sym same)) (IsElement k) (power_value mul x) (additive x at) (λ a b h g. xor_lt k a b h g) [] us tt (elements us all)
      ∙ xor_zero_l (value_of mul x us)

  -- ---- products

  added_element : (by : ℕ × ℕ) (e : ℕ) → IsPower k by → IsElement k e → IsElement k (add_exponent k e by.0)
  added_element by e is at = elim (cases_lt (e + by.0) (2 ^ k)) [
    | inl low ↦ omega (arith, low_is f by is e low, low)
    | inr high ↦ omega (arith, high_is f by is e high, high, at, is.exponent, pow_pos k)
  ]

  multiplied_powers : (by : ℕ × ℕ) (us : Powers) → IsPower k by → AllByRecursion (IsPower k) us → AllByRecursion (IsPower k) (multiplied k mul by us)
  multiplied_powers by [] is all = tt
  multiplied_powers by (u ∷ us) is all = (
    record {
      exponent = added_element by u.0 is all.0.exponent;
      element = f.closed by.1 u.1 is.element all.0.element;
      some = product_nonzero f by.1 u.1 is.element all.0.element is.some all.0.some;
    },
    multiplied_powers by us is all.1,
  )

  -- all products of two powers
  abbrev pairs : Powers → Powers → Powers
  pairs us [] = []
  pairs us (v ∷ vs) = multiplied k mul v us ++ pairs us vs

  pairs_powers : (us vs : Powers) → AllByRecursion (IsPower k) us → AllByRecursion (IsPower k) vs → AllByRecursion (IsPower k) (pairs us vs)
  pairs_powers us [] all more = tt
  pairs_powers us (v ∷ vs) all more = all_append (IsPower k) (multiplied k mul v us) (pairs us vs) (multiplied_powers v us more.0 all) (pairs_powers us vs all more.1)

  pairs_value : (x : ℕ) (us vs : Powers) → IsElement k x → AllByRecursion (IsPower k) us → AllByRecursion (IsPower k) vs → value_of mul x (pairs us vs) ≡ mul (value_of mul x us) (value_of mul x vs)
  pairs_value x us [] at all more = sym (product_by_zero f (value_of mul x us) (value_of_element f x us at all))
  pairs_value x us (v ∷ vs) at all more =
      let u = value_of mul x us in
      let p = power_value mul x v in
      let r = value_of mul x vs in
      let hu = value_of_element f x us at all in
      let hp = power_value_element f x v at more.0 in
      let hr = value_of_element f x vs at more.1 in
      xor_sum-append (power_value mul x) (multiplied k mul v us) (pairs us vs)
      ∙ ((λ i. bit_xor ((value_multiplied f v more.0 x us at all ∙ f.comm p u hp hu) i) (pairs_value x us vs at all more.1 i))
      ∙ sym (distrib_right f u p r hu hp hr))

  -- each two have a product
  pub some_product : (us vs : Powers) → IsUnivariate k us → IsUnivariate k vs → (new : Powers) × IsProductOfTwo k mul us vs new
  some_product us vs left right =
      let all = pairs_powers us vs left.powers right.powers in (
        plus nat_cmp [] (pairs us vs),
        record {
          univariate = gathered_powers (pairs us vs) all;
          values = λ x at. gathered_at x (pairs us vs) at all ∙ pairs_value x us vs at left.powers right.powers;
        },
      )
