-- Functions of the feeds as stages: their polynomials, their sizes, and the stages of a sum in their order.
use Rattle.std.proofs.Common.{◌≡◌, ◌≢◌, ◌∙◌, ap, ap₂, sym, refl, subst, inl, inr, ℕ, zero, suc, ◌+◌, ◌<◌, ◌≤◌, ◌^◌, List, [], ◌∷◌, ◌++◌, length, take, Some, bit_xor, arith}
use Rattle.std.specs.Prelude.{slice_get}
use Rattle.std.specs.List.{AllByRecursion}
use Rattle.std.proofs.lemmas.Bool.{cases_order}
use Rattle.std.proofs.lemmas.Nat.{pow_pos}
use Rattle.std.proofs.lemmas.Option.{slice_get_within}
use Rattle.std.proofs.lemmas.List.{take_all}
use lib.Bits.{xor_assoc, xor_comm, xor_lt}
use Rattle.lists.specs.laws.TakeLaws.{taken_more}
use Rattle.gf_field.specs.Ring.{IsRing}
use Rattle.gf_field.specs.Field.{HasNoZeroDivisors}
use Rattle.poly_mixed.specs.Polynomial.{value, IsPoint, IsPolynomialOf, IsReduced, Point, Terms}
use Rattle.poly_mixed.specs.Product.{IsProduct}
use Rattle.poly_mixed.proofs.FieldLaws.{field_of}
use Rattle.poly_mixed.proofs.SimpleLemmas.{reduced_nothing}
use Rattle.stage_model.specs.Stage.{HasSize, IsOfStage, IsWithin}
use Rattle.stage_model.specs.Listing.{AreAllWithin, IsOver}
use Rattle.term_expand.specs.declared.stage.SumFault.{SumFault}
use Rattle.term_expand.specs.declared.stage.SumFault.TheVariants.{TooManyTerms, OutOfMemory}
use Rattle.term_expand.specs.declared.stage.SumStage.{SumStage}
use Rattle.term_expand.specs.declared.stage.SumStage.TheVariants.{TermProduct, TermSum}
use Rattle.term_expand.specs.Sums.{SumOfProducts, IsFedSum, IsFedTerm}
use Rattle.term_expand.specs.SumValue.{factors_of, powers_at, product_at, sum_at}
use Rattle.term_expand.specs.SumListing.{sum_listing, sum_stage_of, is_earlier_sum_stage, is_sum_stage, HasFactor, IsAtFeeds, IsSumOver, IsTermProduct}
use Rattle.term_expand.specs.private.Reached.{AreProductsWithin, HasWithin, IsFeedPower, IsProductOver, IsReached, IsTermRefusal}
use Rattle.term_expand.proofs.SumValueLemmas.{product_all, product_more, product_none}
use Rattle.term_expand.proofs.Summed.{IsSummed}

-- the exponents of a term are below 2^64
pub small_exponents : (k words : ℕ) (t : ℕ × List (ℕ × ℕ)) → IsFedTerm k words t → AllByRecursion (λ (p : ℕ × ℕ). p.1 < 2 ^ 64) t.1
small_exponents k words t is = from t.1 is.powers
  where
    from : (ps : List (ℕ × ℕ)) → AllByRecursion (λ (p : ℕ × ℕ). (p.1 < 2 ^ 64) × (p.1 ≢ 0 → p.0 < words)) ps → AllByRecursion (λ (p : ℕ × ℕ). p.1 < 2 ^ 64) ps
    from [] all = tt
    from (p ∷ ps) all = (all.0.0, from ps all.1)

module _ (k : ℕ) (mul : ℕ → ℕ → ℕ) (feeds : Point → List ℕ) where
  -- ---- one function of the feeds

  -- a polynomial of the function is one of the stage
  of_stage : (h : List ℕ → ℕ) (ts : Terms) → IsPolynomialOf k mul (λ p. h (feeds p)) ts → IsOfStage k mul (IsAtFeeds feeds h) ts
  of_stage h ts is = record { reduced = is.reduced; values = λ p at. sym (is.values p at) }

  pub has_size : (h : List ℕ → ℕ) (ts : Terms) (n : ℕ) → IsPolynomialOf k mul (λ p. h (feeds p)) ts → length ts ≡ n → HasSize k mul (IsAtFeeds feeds h) n
  has_size h ts n is e = record { terms = ts; is = of_stage h ts is; size = e }

  pub within_of : (h : List ℕ → ℕ) (ts : Terms) (bound : ℕ) → IsPolynomialOf k mul (λ p. h (feeds p)) ts → length ts ≤ bound → HasWithin k mul feeds h bound
  within_of h ts bound is low = record { size = length ts; has = has_size h ts (length ts) is refl; within = low }

  taken_past : (fs : List (ℕ × ℕ)) (n : ℕ) → length fs ≤ n → take n fs ≡ take (length fs) fs
  taken_past [] zero low = refl
  taken_past [] (suc n) low = refl
  taken_past (f ∷ fs) zero low = absurd (omega (arith, low))
  taken_past (f ∷ fs) (suc n) low = ap (λ gs. f ∷ gs) (taken_past fs n (omega (arith, low)))

  -- the product with all factors is reached
  pub all_reached : (t : ℕ × List (ℕ × ℕ)) (bound n : ℕ) (ts : Terms) → length (factors_of t.1) ≤ n → IsReached k mul feeds t bound n ts → IsReached k mul feeds t bound (length (factors_of t.1)) ts
  all_reached t bound n ts last reached = record {
    is = record { reduced = reached.is.reduced; values = λ p at. reached.is.values p at ∙ ap (λ fs. mul t.0 (powers_at mul (feeds p) fs)) (taken_past (factors_of t.1) n last) };
    within = λ j some most. reached.within j some (omega (arith, most, last));
  }

  module _ (ring : IsRing k mul) (field : HasNoZeroDivisors k mul) where
    -- ---- products and sums

    -- no factor is reached by the coefficient
    pub constant_of : (t : ℕ × List (ℕ × ℕ)) (bound : ℕ) (ts : Terms) → t.0 < 2 ^ k → IsPolynomialOf k mul (λ p. t.0) ts → IsReached k mul feeds t bound 0 ts
    constant_of t bound ts less is = record {
      is = record { reduced = is.reduced; values = λ p at. is.values p at ∙ product_none k mul ring (feeds p) t less };
      within = λ j some most. absurd (omega (arith, some, most));
    }

    product_of : (t : ℕ × List (ℕ × ℕ)) (n w j : ℕ) (us vs ts : Terms) → slice_get (factors_of t.1) n ≡ Some (w, 2 ^ j) → IsPolynomialOf k mul (λ p. product_at mul (feeds p) t n) us → IsFeedPower k mul feeds w j vs → IsReduced k ts → IsProduct k mul ts us vs
        → IsPolynomialOf k mul (λ p. product_at mul (feeds p) t (n + 1)) ts
    product_of t n w j us vs ts got a b reduced is = record {
      reduced = reduced;
      values = λ p at. is p at ∙ (ap₂ mul (a.values p at) (b.values p at) ∙ sym (product_more k mul ring (feeds p) t n w (2 ^ j) got));
    }

    -- one factor more is reached
    pub reached_more : (t : ℕ × List (ℕ × ℕ)) (bound n w j : ℕ) (us vs ts : Terms) → slice_get (factors_of t.1) n ≡ Some (w, 2 ^ j) → IsReached k mul feeds t bound n us → IsFeedPower k mul feeds w j vs → IsReduced k ts → IsProduct k mul ts us vs → length ts ≤ bound
        → IsReached k mul feeds t bound (n + 1) ts
    reached_more t bound n w j us vs ts got a b reduced is low = record { is = made; within = within }
      where
        made : IsPolynomialOf k mul (λ p. product_at mul (feeds p) t (n + 1)) ts
        made = product_of t n w j us vs ts got a.is b reduced is

        within : AreProductsWithin k mul feeds t (n + 1) bound
        within i some most =
            elim (cases_order i (n + 1)) [
              | inl same ↦ (let P : ℕ → Type 0 = λ m. HasWithin k mul feeds (λ xs. product_at mul xs t m) bound in subst P (sym same) (within_of (λ xs. product_at mul xs t (n + 1)) ts bound made low))
              | inr other ↦ elim other [ inl less ↦ a.within i some (omega (arith, less)) | inr more ↦ absurd (omega (arith, most, more)) ]
            ]

    pub product_refused : (t : ℕ × List (ℕ × ℕ)) (bound n w j number : ℕ) (us vs ts : Terms) → slice_get (factors_of t.1) n ≡ Some (w, 2 ^ j) → IsReached k mul feeds t bound n us → IsFeedPower k mul feeds w j vs → IsReduced k ts → IsProduct k mul ts us vs → bound < length ts
        → IsTermRefusal k mul feeds t number bound (TooManyTerms (TermProduct number (n + 1)) (length ts))
    product_refused t bound n w j number us vs ts got a b reduced is over = (
      refl,
      record {
        some = omega arith;
        most = omega (arith, slice_get_within (factors_of t.1) n (w, 2 ^ j) got);
        size = has_size (λ xs. product_at mul xs t (n + 1)) ts (length ts) (product_of t n w j us vs ts got a.is b reduced is) refl;
        over = over;
        before = λ i some less. a.within i some (omega (arith, less));
      },
    )

    sum_of : (us vs : SumOfProducts) (t : ℕ × List (ℕ × ℕ)) (xs : List ℕ) → vs ≡ us ++ t ∷ [] → sum_at mul xs vs ≡ bit_xor (sum_at mul xs us) (mul t.0 (powers_at mul xs t.1))
    sum_of us vs t xs e = ap (sum_at mul xs) e ∙ last us
      where
        last : (us : SumOfProducts) → sum_at mul xs (us ++ t ∷ []) ≡ bit_xor (sum_at mul xs us) (mul t.0 (powers_at mul xs t.1))
        last [] = xor_comm (mul t.0 (powers_at mul xs t.1)) 0
        last (u ∷ us) = ap (bit_xor (mul u.0 (powers_at mul xs u.1))) (last us) ∙ sym (xor_assoc (mul u.0 (powers_at mul xs u.1)) (sum_at mul xs us) (mul t.0 (powers_at mul xs t.1)))

    -- ---- the terms of a sum

    module _ (sum : SumOfProducts) (bound : ℕ) where
      -- no term is summed by nothing
      pub nothing_summed : IsSummed k mul feeds sum bound 0 []
      nothing_summed = record {
        is = record { reduced = reduced_nothing (field_of k mul ring field); values = λ p at. refl };
        terms_within = record { products = λ i t less got. absurd (omega (arith, less)); sums = λ r some most. absurd (omega (arith, some, most)) };
      }

      -- a product stage is the product of its term
      product_within : (s j : ℕ) (is : HasFactor sum s j) → HasWithin k mul feeds (λ xs. product_at mul xs is.term j) bound → IsWithin k mul (IsTermProduct mul feeds sum s j) bound
      product_within s j is within = record {
        size = within.size;
        has = record {
          terms = within.has.terms;
          is = record { reduced = within.has.is.reduced; values = λ p at. record { place = is.place; term = is.term; number = is.number; at = is.at; is = within.has.is.values p at } };
          size = within.has.size;
        };
        within = within.within;
      }

      module _ (s : ℕ) (t : ℕ × List (ℕ × ℕ)) (got : slice_get sum s ≡ Some t) (small : AllByRecursion (λ (p : ℕ × ℕ). p.1 < 2 ^ 64) t.1) (old product new : Terms) (summed : IsSummed k mul feeds sum bound s old) (reached : IsReached k mul feeds t bound (length (factors_of t.1)) product) (reduced : IsReduced k new) (values : (p : Point) → IsPoint k p → value mul p new ≡ bit_xor (value mul p old) (value mul p product)) where
        new_sum : IsPolynomialOf k mul (λ p. sum_at mul (feeds p) (take (s + 1) sum)) new
        new_sum = record {
          reduced = reduced;
          values = λ p at.
              values p at
              ∙ ap₂ bit_xor (summed.is.values p at) (reached.is.values p at ∙ product_all k mul ring (feeds p) t (length (factors_of t.1)) refl small)
              ∙ sym (sum_of (take s sum) (take (s + 1) sum) t (feeds p) (taken_more sum s t got));
        }

        products_more : (i : ℕ) (u : ℕ × List (ℕ × ℕ)) → i < s + 1 → slice_get sum i ≡ Some u → AreProductsWithin k mul feeds u (length (factors_of u.1)) bound
        products_more i u less at =
            elim (cases_order i s) [
              | inl same ↦
                  let P : ℕ → Type 0 = λ n. slice_get sum n ≡ Some u in
                  let here : slice_get sum s ≡ Some u = subst P same at in
                  let equal : t ≡ u = cc in
                  let Q : ℕ × List (ℕ × ℕ) → Type 0 = λ v. AreProductsWithin k mul feeds v (length (factors_of v.1)) bound in
                  subst Q equal reached.within
              | inr other ↦ elim other [ inl low ↦ summed.terms_within.products i u low at | inr high ↦ absurd (omega (arith, less, high)) ]
            ]

        pub summed_more : length new ≤ bound → IsSummed k mul feeds sum bound (s + 1) new
        summed_more low = record { is = new_sum; terms_within = record { products = products_more; sums = sums } }
          where
            sums : (r : ℕ) → 1 ≤ r → r ≤ s + 1 → HasWithin k mul feeds (λ xs. sum_at mul xs (take r sum)) bound
            sums r some most =
                elim (cases_order r (s + 1)) [
                  | inl same ↦ (let P : ℕ → Type 0 = λ n. HasWithin k mul feeds (λ xs. sum_at mul xs (take n sum)) bound in subst P (sym same) (within_of (λ xs. sum_at mul xs (take (s + 1) sum)) new bound new_sum low))
                  | inr other ↦ elim other [ inl less ↦ summed.terms_within.sums r some (omega (arith, less)) | inr more ↦ absurd (omega (arith, most, more)) ]
                ]

        -- the sum is the first stage over the bound
        pub sum_refused : bound < length new → IsSumOver k mul feeds sum bound (TooManyTerms (TermSum (s + 1)) (length new))
        sum_refused over_bound = record {
          listed = (omega arith, omega (arith, slice_get_within sum s t got));
          size = has_size (λ xs. sum_at mul xs (take (s + 1) sum)) new (length new) new_sum refl;
          over = over_bound;
          before = before;
        }
          where
            before : (other : SumStage) → is_sum_stage sum other → is_earlier_sum_stage other (TermSum (s + 1)) → IsWithin k mul (sum_stage_of mul feeds sum other) bound
            before (TermProduct r j) listed earlier = product_within r j listed (products_more listed.place listed.term (omega (arith, listed.number, earlier)) listed.at j listed.some listed.most)
            before (TermSum r) listed earlier = summed.terms_within.sums r listed.0 (omega (arith, earlier))

      -- a product of a term is the first stage over the bound
      module _ (s : ℕ) (t : ℕ × List (ℕ × ℕ)) (old : Terms) (j n : ℕ) (got : slice_get sum s ≡ Some t) (summed : IsSummed k mul feeds sum bound s old) (is : IsProductOver k mul feeds t bound j n) where
        at_term : (r i : ℕ) (listed : HasFactor sum r i) → r ≡ s + 1 → i < j → HasWithin k mul feeds (λ xs. product_at mul xs listed.term i) bound
        at_term r i listed same less =
            let place : listed.place ≡ s = omega (arith, listed.number, same) in
            let Q : ℕ → Type 0 = λ m. slice_get sum m ≡ Some listed.term in
            let here : slice_get sum s ≡ Some listed.term = subst Q place listed.at in
            let equal : t ≡ listed.term = cc in
            let R : ℕ × List (ℕ × ℕ) → Type 0 = λ u. HasWithin k mul feeds (λ xs. product_at mul xs u i) bound in
            subst R equal (is.before i listed.some less)

        before_product : (other : SumStage) → is_sum_stage sum other → is_earlier_sum_stage other (TermProduct (s + 1) j) → IsWithin k mul (sum_stage_of mul feeds sum other) bound
        before_product (TermProduct r i) listed (inl low) = product_within r i listed (summed.terms_within.products listed.place listed.term (omega (arith, listed.number, low)) listed.at i listed.some listed.most)
        before_product (TermProduct r i) listed (inr same) = product_within r i listed (at_term r i listed same.0 same.1)
        before_product (TermSum r) listed earlier = summed.terms_within.sums r listed.0 (omega (arith, earlier))

        product_first : IsOver k mul (sum_listing mul feeds sum) bound (TermProduct (s + 1) j) n
        product_first = record {
          listed = record { place = s; term = t; number = refl; at = got; some = is.some; most = is.most };
          size = record {
            terms = is.size.terms;
            is = record { reduced = is.size.is.reduced; values = λ p at. record { place = s; term = t; number = refl; at = got; is = is.size.is.values p at } };
            size = is.size.size;
          };
          over = is.over;
          before = before_product;
        }

      pub term_refused : (s : ℕ) (t : ℕ × List (ℕ × ℕ)) (old : Terms) (fault : SumFault) → slice_get sum s ≡ Some t → IsSummed k mul feeds sum bound s old → IsTermRefusal k mul feeds t (s + 1) bound fault → IsSumOver k mul feeds sum bound fault
      term_refused s t old OutOfMemory got summed is = tt
      term_refused s t old (TooManyTerms (TermProduct r j) n) got summed is =
          let P : ℕ → Type 0 = λ m. IsOver k mul (sum_listing mul feeds sum) bound (TermProduct m j) n in
          subst P (sym is.0) (product_first s t old j n got summed is.1)
      term_refused s t old (TooManyTerms (TermSum r) n) got summed is = absurd is

      pub all_summed : (s : ℕ) (ts : Terms) → length sum ≤ s → IsSummed k mul feeds sum bound s ts → IsPolynomialOf k mul (λ p. sum_at mul (feeds p) sum) ts
      all_summed s ts last summed = let P : SumOfProducts → Type 0 = λ us. IsPolynomialOf k mul (λ p. sum_at mul (feeds p) us) ts in subst P (take_all s sum last) summed.is

      pub all_within : (s : ℕ) (ts : Terms) → length sum ≤ s → IsSummed k mul feeds sum bound s ts → AreAllWithin k mul (sum_listing mul feeds sum) bound
      all_within s ts last summed (TermProduct r j) listed = product_within r j listed (summed.terms_within.products listed.place listed.term (omega (arith, last, slice_get_within sum listed.place listed.term listed.at)) listed.at j listed.some listed.most)
      all_within s ts last summed (TermSum r) listed = summed.terms_within.sums r listed.0 (omega (arith, last, listed.1))

-- ---- values

module _ (k : ℕ) (mul : ℕ → ℕ → ℕ) (ring : IsRing k mul) where
  -- the value of a sum is an element
  pub sum_in : (xs : List ℕ) (sum : SumOfProducts) → sum_at mul xs sum < 2 ^ k
  sum_in xs [] = pow_pos k
  sum_in xs (t ∷ ts) = xor_lt k (mul t.0 (powers_at mul xs t.1)) (sum_at mul xs ts) (ring.closed t.0 (powers_at mul xs t.1)) (sum_in xs ts)
