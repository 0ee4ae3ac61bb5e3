-- The stages of one word as functions of its bits, out of the terms of the polynomial in which the word is replaced.
-- Source: this project's own.
use Rattle.std.specs.Prelude.{◌≡◌, ℕ, ◌<◌, ◌≤◌, List, Some, length, take, slice_get}
use Rattle.poly_mixed.specs.Monomial.{Monomial}
use Rattle.poly_mixed.specs.Polynomial.{Terms, Point, term_value, value}
use Rattle.poly_mixed.specs.Cofactor.{without_bit}
use Rattle.stage_model.specs.WordStage.{word_bits, first_bits, with_word}
use Rattle.stage_model.specs.WordSteps.{with_word_below}
use Rattle.stage_model.specs.PlainWord.{IsReading}

module _ (k : ℕ) (mul : ℕ → ℕ → ℕ) (w : ℕ) where
  -- a term with the first j of its bits of the word, read from the number d, without the others
  abbrev pub product_at : Monomial × ℕ → ℕ → ℕ → Point → ℕ
  product_at t j d p = term_value mul (with_word k w d p) (first_bits k w j t)

  -- the first s terms, with their bits of the word read from d
  abbrev pub sum_at : Terms → ℕ → ℕ → Point → ℕ
  sum_at terms s d p = value mul (with_word k w d p) (take s terms)

  -- a term without the bit of this rank, with its bits of the word below read from d
  abbrev pub multiplier_at : Monomial × ℕ → ℕ → ℕ → Point → ℕ
  multiplier_at t rank d p = term_value mul (with_word_below k w rank d p) (without_bit rank t.0, t.1)

module _ (k : ℕ) (mul : ℕ → ℕ → ℕ) (elements : List ℕ) (w : ℕ) where
  -- what h says of the word's bits has a polynomial of no more terms than the bound
  pub record HasWithin (h : ℕ → Point → ℕ) (bound : ℕ) : Type 0 where
    pub terms : Terms
    pub is : IsReading k mul elements w h terms
    pub within : length terms ≤ bound

  -- it has one of n terms, which are more than the bound
  pub record HasOver (h : ℕ → Point → ℕ) (bound n : ℕ) : Type 0 where
    pub terms : Terms
    pub is : IsReading k mul elements w h terms
    pub size : length terms ≡ n
    pub over : bound < n

  -- the products of a term with its first bits of the word are within the bound, for the first n bits
  abbrev pub AreProductsWithin : Monomial × ℕ → ℕ → ℕ → Type 0
  AreProductsWithin t n bound = (j : ℕ) → 1 ≤ j → j ≤ n → HasWithin (product_at k mul w t j) bound

  -- so are those for all its bits
  abbrev pub IsTermWithin : Monomial × ℕ → ℕ → Type 0
  IsTermWithin t bound = AreProductsWithin t (length (word_bits k w t)) bound

  -- the products of the first n terms are within the bound, and so are the sums of the first terms up to these n
  pub record AreTermsWithin (terms : Terms) (n bound : ℕ) : Type 0 where
    pub products : (i : ℕ) (t : Monomial × ℕ) → i < n → slice_get terms i ≡ Some t → IsTermWithin t bound
    pub sums : (s : ℕ) → 1 ≤ s → s ≤ n → HasWithin (sum_at k mul w terms s) bound
