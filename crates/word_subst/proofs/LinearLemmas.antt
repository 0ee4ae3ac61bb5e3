-- Sums of multiples of linear forms: they are linear forms, and have at most k powers.
use Rattle.std.proofs.Common.{◌≡◌, ◌≢◌, ◌∙◌, ap, refl, inl, inr, ℕ, suc, ◌<◌, ◌≤◌, ◌+◌, ◌^◌, [], ◌∷◌, ◌++◌, length, bit_xor, arith}
use Rattle.std.specs.List.{AllByRecursion}
use Rattle.std.specs.Ordering.{nat_cmp}
use Rattle.std.proofs.Math.Nat.{pow-le-pow_right}
use Rattle.std.proofs.lemmas.Bool.{cases_lt}
use Rattle.lists.specs.laws.ListLaws.{all_append}
use Rattle.gf_field.specs.Power.{power}
use Rattle.poly_mixed.specs.Polynomial.{IsElement}
use Rattle.poly_mixed.specs.Product.{add_exponent}
use Rattle.poly_mixed.specs.Sum.{plus}
use Rattle.poly_mixed.proofs.FieldLaws.{IsField}
use Rattle.poly_mixed.proofs.SumLemmas.{all_plus}
use Rattle.poly_mixed.proofs.ValueLemmas.{one_element, zero_element}
use Rattle.word_subst.specs.Univariate.{Powers, IsPower, IsBelow, IsRising, IsUnivariate, IsMultiple, power_value, value_of}
use Rattle.word_subst.specs.Forms.{IsLinear}
use Rattle.word_subst.specs.Multiple.{multiplied}
use Rattle.word_subst.proofs.GatheredPowersLemmas.{gathered_powers, gathered_at}
use Rattle.word_subst.proofs.MultipleLemmas.{scaled_is, low_is}
use Rattle.word_subst.proofs.UnivariateLemmas.{xor_sum-append}

-- ---- how many powers they have

greater_place : (d e i j : ℕ) → d < e → d ≡ 2 ^ i → e ≡ 2 ^ j → suc i ≤ j
greater_place d e i j less d_is e_is = elim (cases_lt i j) [
  | inl low ↦ omega (arith, low)
  | inr high ↦ let le : 2 ^ j ≤ 2 ^ i = pow-le-pow_right (omega arith) high in absurd (omega (arith, le, less, d_is, e_is))
]

few_linear : (k a : ℕ) (us : Powers) → a ≤ k → IsRising us → AllByRecursion (λ t. (j : ℕ) × (a ≤ j) × (j < k) × (t.0 ≡ 2 ^ j)) us → length us + a ≤ k
few_linear k a [] less up all = omega arith
few_linear k a (u ∷ us) less up all =
    let i : ℕ = all.0.0 in
    let rest : length us + suc i ≤ k = few_linear k (suc i) us (omega (arith, all.0.2)) up.1 (above us up.0 all.1) in
    omega (arith, rest, all.0.1)
  where
    above : (vs : Powers) → IsBelow u.0 vs → AllByRecursion (λ t. (j : ℕ) × (a ≤ j) × (j < k) × (t.0 ≡ 2 ^ j)) vs → AllByRecursion (λ t. (j : ℕ) × (suc all.0.0 ≤ j) × (j < k) × (t.0 ≡ 2 ^ j)) vs
    above [] below each = tt
    above (v ∷ vs) below each = ((each.0.0, greater_place u.0 v.0 all.0.0 each.0.0 below.0 all.0.3 each.0.3, each.0.2, each.0.3), above vs below.1 each.1)

pub linear_few : (k : ℕ) (us : Powers) → IsUnivariate k us → IsLinear k us → length us ≤ k
linear_few k us is linear = omega (arith, few_linear k 0 us (omega arith) is.rising (from us linear))
  where
    from : (vs : Powers) → IsLinear k vs → AllByRecursion (λ t. (j : ℕ) × (0 ≤ j) × (j < k) × (t.0 ≡ 2 ^ j)) vs
    from [] all = tt
    from (v ∷ vs) all = ((all.0.0, omega arith, all.0.1, all.0.2), from vs all.1)

-- ---- multiples and sums

module _ {k : ℕ} {mul : ℕ → ℕ → ℕ} (f : IsField k mul) where
  pub by_element : (c : ℕ) → IsElement k c → c ≢ 0 → IsPower k (0, c)
  by_element c in_field some = record { exponent = zero_element f; element = in_field; some = some }

  -- a polynomial in one word times an element
  pub scaled : (c : ℕ) (us : Powers) → IsElement k c → c ≢ 0 → IsUnivariate k us → IsMultiple k mul (0, c) us (multiplied k mul (0, c) us) × (length (multiplied k mul (0, c) us) ≡ length us)
  scaled c us in_field some is = scaled_is f c us us (multiplied k mul (0, c) us) (by_element c in_field some) is refl refl

  pub scaled_at : (c x : ℕ) (us : Powers) → IsElement k c → c ≢ 0 → IsUnivariate k us → IsElement k x → value_of mul x (multiplied k mul (0, c) us) ≡ mul c (value_of mul x us)
  unfolding power
  scaled_at c x us in_field some is at = (scaled c us in_field some is).0.values x at ∙ ap (λ n. mul n (value_of mul x us)) (f.comm c 1 in_field (one_element f) ∙ f.neutral c in_field)

  scaled_linear : (c : ℕ) (us : Powers) → IsElement k c → c ≢ 0 → AllByRecursion (IsPower k) us → IsLinear k us → IsLinear k (multiplied k mul (0, c) us)
  scaled_linear c [] in_field some is linear = tt
  scaled_linear c (u ∷ us) in_field some is linear =
      let same : add_exponent k u.0 0 ≡ u.0 + 0 = low_is f (0, c) (by_element c in_field some) u.0 (omega (arith, is.0.exponent)) in
      ((linear.0.0, linear.0.1, omega (arith, same, linear.0.2)), scaled_linear c us in_field some is.1 linear.1)

  -- a linear form plus an element times another one
  abbrev pub next_sum : ℕ → Powers → Powers → Powers
  next_sum b us form = plus nat_cmp [] (us ++ multiplied k mul (0, b) form)

  module _ (b : ℕ) (us form : Powers) (in_field : IsElement k b) (some : b ≢ 0) (left : IsUnivariate k us) (right : IsUnivariate k form) where
    both_powers : AllByRecursion (IsPower k) (us ++ multiplied k mul (0, b) form)
    both_powers = all_append (IsPower k) us (multiplied k mul (0, b) form) left.powers (scaled b form in_field some right).0.univariate.powers

    pub next_univariate : IsUnivariate k (next_sum b us form)
    next_univariate = gathered_powers f (us ++ multiplied k mul (0, b) form) both_powers

    pub next_linear : IsLinear k us → IsLinear k form → IsLinear k (next_sum b us form)
    next_linear first second =
        let P : ℕ × ℕ → Type 0 = λ t. (j : ℕ) × (j < k) × (t.0 ≡ 2 ^ j) in
        all_plus nat_cmp P (λ t u h g n. h) [] (us ++ multiplied k mul (0, b) form) tt (all_append P us (multiplied k mul (0, b) form) first (scaled_linear b form in_field some right.powers second))

    pub next_at : (x : ℕ) → IsElement k x → value_of mul x (next_sum b us form) ≡ bit_xor (value_of mul x us) (mul b (value_of mul x form))
    next_at x at =
        gathered_at f x (us ++ multiplied k mul (0, b) form) at both_powers
        ∙ (xor_sum-append (power_value mul x) us (multiplied k mul (0, b) form) ∙ ap (bit_xor (value_of mul x us)) (scaled_at b x form in_field some right at))
