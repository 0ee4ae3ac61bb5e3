-- What the walk over the terms of a sum keeps: polynomials of functions of the feeds, and the stages that are within the bound.
-- Source: this project's own.
use Rattle.std.specs.Prelude.{◌≡◌, ℕ, ◌+◌, ◌-◌, ◌<◌, ◌≤◌, ◌^◌, List, ◌++◌, drop, length, slice_index}
use Rattle.gf_field.specs.Power.{power}
use Rattle.poly_mixed.specs.Polynomial.{IsPolynomialOf, Point, Terms}
use Rattle.stage_model.specs.Stage.{HasSize, IsWithin}
use Rattle.term_expand.specs.declared.stage.SumFault.{SumFault}
use Rattle.term_expand.specs.declared.stage.SumFault.TheVariants.{TooManyTerms, OutOfMemory}
use Rattle.term_expand.specs.declared.stage.SumStage.{SumStage}
use Rattle.term_expand.specs.declared.stage.SumStage.TheVariants.{TermProduct, TermSum}
use Rattle.term_expand.specs.SumValue.{factors_of, factors_with, ones_of, product_at}
use Rattle.term_expand.specs.SumListing.{IsAtFeeds}

-- the factors of the pairs from this one on
abbrev pub pairs_left : ℕ → List (ℕ × ℕ) → List (ℕ × ℕ)
pairs_left pair ps = factors_of (drop pair ps)

-- the factors of the digits of what is left of a word's exponent, from digit j on, and those of the pairs after this one
abbrev pub digits_left : ℕ → ℕ → ℕ → ℕ → List (ℕ × ℕ) → List (ℕ × ℕ)
digits_left word j left pair ps = factors_with word (ones_of (64 - j) j left) ++ pairs_left (pair + 1) ps

module _ (k : ℕ) (mul : ℕ → ℕ → ℕ) (feeds : Point → List ℕ) where
  -- what feeds a word, to the power 2^j
  abbrev pub IsFeedPower : ℕ → ℕ → Terms → Type 0
  IsFeedPower word j ts = IsPolynomialOf k mul (λ p. power mul (slice_index (feeds p) word) (2 ^ j)) ts

  -- the function of the feeds has a polynomial of no more terms than the bound
  abbrev pub HasWithin : (List ℕ → ℕ) → ℕ → Type 0
  HasWithin h bound = IsWithin k mul (IsAtFeeds feeds h) bound

  -- the products of a term with its first factors, up to n, are within the bound
  abbrev pub AreProductsWithin : ℕ × List (ℕ × ℕ) → ℕ → ℕ → Type 0
  AreProductsWithin t n bound = (j : ℕ) → 1 ≤ j → j ≤ n → HasWithin (λ xs. product_at mul xs t j) bound

  -- the product of a term with its first n factors was reached
  pub record IsReached (t : ℕ × List (ℕ × ℕ)) (bound n : ℕ) (ts : Terms) : Type 0 where
    pub is : IsPolynomialOf k mul (λ p. product_at mul (feeds p) t n) ts
    pub within : AreProductsWithin t n bound

  -- of the products of a term the one with j factors is the first over the bound, and has n terms
  pub record IsProductOver (t : ℕ × List (ℕ × ℕ)) (bound j n : ℕ) : Type 0 where
    pub some : 1 ≤ j
    pub most : j ≤ length (factors_of t.1)
    pub size : HasSize k mul (IsAtFeeds feeds (λ xs. product_at mul xs t j)) n
    pub over : bound < n
    pub before : (i : ℕ) → 1 ≤ i → i < j → HasWithin (λ xs. product_at mul xs t i) bound

  -- the stage is a product of the term with this number
  abbrev pub IsOverAt : ℕ × List (ℕ × ℕ) → ℕ → ℕ → SumStage → ℕ → Type 0
  IsOverAt t number bound (TermProduct s j) n = (s ≡ number) × IsProductOver t bound j n
  IsOverAt t number bound (TermSum s) n = ⊥

  -- that stage with its size; out of memory is free
  abbrev pub IsTermRefusal : ℕ × List (ℕ × ℕ) → ℕ → ℕ → SumFault → Type 0
  IsTermRefusal t number bound (TooManyTerms stage n) = IsOverAt t number bound stage n
  IsTermRefusal t number bound OutOfMemory = Unit {0}
