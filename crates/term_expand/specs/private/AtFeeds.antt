-- What the walk over a term keeps, where the feeds are polynomials. Source: this project's own.
use Rattle.std.specs.Prelude.{ℕ, List, length}
use Rattle.poly_mixed.specs.Polynomial.{Terms}
use Rattle.term_expand.specs.declared.factors.Reached.{Reached}
use Rattle.term_expand.specs.declared.stage.SumFault.{SumFault}
use Rattle.term_expand.specs.SumValue.{factors_of}
use Rattle.term_expand.specs.Feeds.{feed_values}
use Rattle.term_expand.specs.private.Reached.{IsFeedPower, IsReached, IsTermRefusal}

module _ (k : ℕ) (mul : ℕ → ℕ → ℕ) (feeds : List Terms) where
  -- what feeds a word, to the power 2^j
  abbrev pub IsPowerAt : ℕ → ℕ → Terms → Type 0
  IsPowerAt word j ts = IsFeedPower k mul (feed_values mul feeds) word j ts

  -- the product of a term with its first factors was reached
  abbrev pub IsReachedAt : ℕ × List (ℕ × ℕ) → ℕ → Reached → Type 0
  IsReachedAt t bound reached = IsReached k mul (feed_values mul feeds) t bound reached.factors reached.poly.terms

  -- the product of a term with all its factors was reached
  abbrev pub IsAllReachedAt : ℕ × List (ℕ × ℕ) → ℕ → Terms → Type 0
  IsAllReachedAt t bound ts = IsReached k mul (feed_values mul feeds) t bound (length (factors_of t.1)) ts

  -- of the products of the term with this number the first over the bound; out of memory is free
  abbrev pub IsRefusalAt : ℕ × List (ℕ × ℕ) → ℕ → ℕ → SumFault → Type 0
  IsRefusalAt t number bound fault = IsTermRefusal k mul (feed_values mul feeds) t number bound fault
