-- The first powers of a linear form, and the linear forms of the first places.
use Rattle.std.proofs.Common.{◌≡◌, ◌∙◌, ap, sym, refl, subst, inl, inr, ℕ, ◌<◌, ◌+◌, ◌^◌, ◌==◌, true, false, cond, List, [], ◌∷◌, ◌++◌, length, Some, bit_xor, append-nil, arith}
use Rattle.std.specs.Prelude.{slice_get, slice_index}
use Rattle.std.specs.Int.Bits.{xor_zero_r}
use Rattle.std.proofs.lemmas.Bool.{eqb-true, eqb-false}
use Rattle.std.proofs.lemmas.Nat.{pow_below}
use Rattle.std.specs.List.{AllByRecursion}
use Rattle.lists.specs.laws.ListLaws.{length-push, all_append}
use Rattle.lists.specs.laws.ReadLaws.{got_push}
use Rattle.gf_field.specs.Power.{power}
use Rattle.poly_mixed.specs.Polynomial.{IsElement}
use Rattle.poly_mixed.specs.Sum.{with_coefficient}
use Rattle.poly_mixed.proofs.FieldLaws.{IsField}
use Rattle.poly_mixed.proofs.ValueLemmas.{power_element, product_zero}
use Rattle.stage_model.proofs.WordBitLemmas.{part_value, next_part}
use Rattle.word_subst.specs.Univariate.{Powers, IsPower, IsUnivariate, value_of, power_value}
use Rattle.word_subst.specs.Merge.{IsBefore}
use Rattle.word_subst.specs.Forms.{IsForm, IsLinear}
use Rattle.word_subst.proofs.UnivariateLemmas.{xor_sum-append, univariate_append, one_power, no_powers}

-- ---- one form

module _ (k : ℕ) (mul : ℕ → ℕ → ℕ) (linear : List ℕ) where
  -- the first j powers of a linear form
  pub record IsPartForm (j : ℕ) (us : Powers) : Type 0 where
    pub univariate : IsUnivariate k us
    pub below : AllByRecursion (λ t. t.0 < 2 ^ j) us
    pub is_linear : IsLinear k us
    pub values : (x : ℕ) → IsElement k x → value_of mul x us ≡ part_value mul linear x j

before_power : (us : Powers) (e c : ℕ) → AllByRecursion (λ t. t.0 < e) us → IsBefore us ((e, c) ∷ [])
before_power [] e c all = tt
before_power (u ∷ us) e c all = ((all.0, tt), before_power us e c all.1)

below_next : (us : Powers) (j : ℕ) → AllByRecursion (λ t. t.0 < 2 ^ j) us → AllByRecursion (λ t. t.0 < 2 ^ (j + 1)) us
below_next [] j all = tt
below_next (u ∷ us) j all = (omega (arith, all.0, pow_below j (j + 1) (omega arith)), below_next us j all.1)

module _ {k : ℕ} {mul : ℕ → ℕ → ℕ} (f : IsField k mul) (linear : List ℕ) where
  pub next_power : (j e c : ℕ) (old new : Powers) → j < k → e ≡ 2 ^ j → c ≡ slice_index linear j → IsElement k c → new ≡ old ++ with_coefficient e c [] → IsPartForm k mul linear j old → IsPartForm k mul linear (j + 1) new
  next_power j e c old new less e_is c_is in_field made is =
      let P : Powers → Type 0 = IsPartForm k mul linear (j + 1) in
      let E : ℕ → Type 0 = λ n. IsPartForm k mul linear (j + 1) (old ++ with_coefficient n c []) in
      subst P (sym made) (subst E (sym e_is) (elim (c == 0) as (λ b. (c == 0) ≡ b → IsPartForm k mul linear (j + 1) (old ++ cond b [] ((2 ^ j, c) ∷ []))) [
        | true ↦ λ none. none_more (eqb-true c 0 none)
        | false ↦ λ some. one_more (record { exponent = pow_below j k less; element = in_field; some = eqb-false c 0 some })
      ] refl))
    where
      none_more : c ≡ 0 → IsPartForm k mul linear (j + 1) (old ++ [])
      none_more none = subst (IsPartForm k mul linear (j + 1)) (sym (append-nil old)) (record {
        univariate = is.univariate;
        below = below_next old j is.below;
        is_linear = is.is_linear;
        values = λ x at. sym (next_part mul linear x j ∙ (ap (bit_xor (part_value mul linear x j)) (ap (λ n. mul n (power mul x (2 ^ j))) (sym c_is ∙ none) ∙ product_zero f (power mul x (2 ^ j)) (power_element f x (2 ^ j) at)) ∙ (xor_zero_r (part_value mul linear x j) ∙ sym (is.values x at))));
      })

      one_more : IsPower k (2 ^ j, c) → IsPartForm k mul linear (j + 1) (old ++ (2 ^ j, c) ∷ [])
      one_more at = record {
        univariate = univariate_append k old ((2 ^ j, c) ∷ []) is.univariate (one_power k (2 ^ j, c) at) (before_power old (2 ^ j) c is.below);
        below = all_append (λ t. t.0 < 2 ^ (j + 1)) old ((2 ^ j, c) ∷ []) (below_next old j is.below) (pow_below j (j + 1) (omega arith), tt);
        is_linear = all_append (λ t. (i : ℕ) × (i < k) × (t.0 ≡ 2 ^ i)) old ((2 ^ j, c) ∷ []) is.is_linear ((j, less, refl), tt);
        values = λ x at'.
            xor_sum-append (power_value mul x) old ((2 ^ j, c) ∷ [])
            ∙ ((λ i. bit_xor (is.values x at' i) (xor_zero_r (power_value mul x (2 ^ j, c)) i))
            ∙ (ap (λ n. bit_xor (part_value mul linear x j) (mul n (power mul x (2 ^ j)))) c_is ∙ sym (next_part mul linear x j)));
      }

-- no powers yet
pub no_power : (k : ℕ) (mul : ℕ → ℕ → ℕ) (linear : List ℕ) → IsPartForm k mul linear 0 []
no_power k mul linear = record { univariate = no_powers k; below = tt; is_linear = tt; values = λ x at. refl }

-- ---- the forms of the first places

module _ (k : ℕ) (mul : ℕ → ℕ → ℕ) (elements : List ℕ) where
  pub record AreFirst (n : ℕ) (forms : List Powers) : Type 0 where
    pub long : length forms ≡ n
    pub each : (place : ℕ) (form : Powers) → slice_get forms place ≡ Some form → IsForm k mul elements place form

  pub one_more : (n : ℕ) (forms new : List Powers) (form : Powers) → new ≡ forms ++ form ∷ [] → AreFirst n forms → IsForm k mul elements n form → AreFirst (n + 1) new
  one_more n forms new form same first is =
      let P : List Powers → Type 0 = AreFirst (n + 1) in
      subst P (sym same) (record {
        long = length-push forms form ∙ ap (λ m. m + 1) first.long;
        each = λ place other got. elim (got_push forms form place other got) [
          | inl old ↦ first.each place other old.0
          | inr last ↦
              let here : n ≡ place = sym (last.0 ∙ first.long) in
              let Q : ℕ → Type 0 = λ i. IsForm k mul elements i form in
              let R : Powers → Type 0 = λ q. IsForm k mul elements place q in
              subst R (sym last.1) (subst Q here is)
        ];
      })
