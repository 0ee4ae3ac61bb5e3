-- What the walk over the terms of a sum keeps after some of them.
use Rattle.std.specs.Prelude.{◌≡◌, ℕ, ◌<◌, ◌≤◌, List, Some, length, take, slice_get}
use Rattle.poly_mixed.specs.Polynomial.{IsPolynomialOf, Point, Terms}
use Rattle.term_expand.specs.Sums.{SumOfProducts}
use Rattle.term_expand.specs.SumValue.{factors_of, sum_at}
use Rattle.term_expand.specs.private.Reached.{AreProductsWithin, HasWithin}

module _ (k : ℕ) (mul : ℕ → ℕ → ℕ) (feeds : Point → List ℕ) where
  -- the stages of the first s terms are within the bound
  pub record AreTermsWithin (sum : SumOfProducts) (s bound : ℕ) : Type 0 where
    pub products : (i : ℕ) (t : ℕ × List (ℕ × ℕ)) → i < s → slice_get sum i ≡ Some t → AreProductsWithin k mul feeds t (length (factors_of t.1)) bound
    pub sums : (r : ℕ) → 1 ≤ r → r ≤ s → HasWithin k mul feeds (λ xs. sum_at mul xs (take r sum)) bound

  -- what holds after s terms: the polynomial of their sum, and their stages are within the bound
  pub record IsSummed (sum : SumOfProducts) (bound s : ℕ) (ts : Terms) : Type 0 where
    pub is : IsPolynomialOf k mul (λ p. sum_at mul (feeds p) (take s sum)) ts
    pub terms_within : AreTermsWithin sum s bound
