-- The stages of a sum of products as a listing: the products of its terms with their first factors, and the sums of these terms,
-- at what feeds the words. Source: this project's own.
use Rattle.std.specs.Prelude.{◌≡◌, ◌⊎◌, ℕ, ◌+◌, ◌<◌, ◌≤◌, ◌^◌, List, Some, length, take, slice_get}
use Rattle.poly_mixed.specs.Polynomial.{Point, Terms}
use Rattle.stage_model.specs.Listing.{Listing, AreAllWithin, IsOver}
use Rattle.term_expand.specs.declared.stage.SumFault.{SumFault}
use Rattle.term_expand.specs.declared.stage.SumFault.TheVariants.{TooManyTerms, OutOfMemory}
use Rattle.term_expand.specs.declared.stage.SumStage.{SumStage}
use Rattle.term_expand.specs.declared.stage.SumStage.TheVariants.{TermProduct, TermSum}
use Rattle.term_expand.specs.Sums.{SumOfProducts}
use Rattle.term_expand.specs.SumValue.{factors_of, sum_at, product_at}
use Rattle.term_expand.specs.Feeds.{feed_values}

-- a function of what feeds the words as a stage: the point is related to its value at the feeds' values there
abbrev pub IsAtFeeds : (Point → List ℕ) → (List ℕ → ℕ) → Point → ℕ → Type 0
IsAtFeeds feeds h p e = h (feeds p) ≡ e

-- term s of the sum, counted from 1, with its first j factors
pub record IsTermProduct (mul : ℕ → ℕ → ℕ) (feeds : Point → List ℕ) (sum : SumOfProducts) (s j : ℕ) (p : Point) (e : ℕ) : Type 0 where
  pub place : ℕ
  pub term : ℕ × List (ℕ × ℕ)
  pub number : place + 1 ≡ s
  pub at : slice_get sum place ≡ Some term
  pub is : IsAtFeeds feeds (λ xs. product_at mul xs term j) p e

-- term s exists, counted from 1, and has a factor j
pub record HasFactor (sum : SumOfProducts) (s j : ℕ) : Type 0 where
  pub place : ℕ
  pub term : ℕ × List (ℕ × ℕ)
  pub number : place + 1 ≡ s
  pub at : slice_get sum place ≡ Some term
  pub some : 1 ≤ j
  pub most : j ≤ length (factors_of term.1)

-- the names of the product and sum stages
abbrev pub is_sum_stage : SumOfProducts → SumStage → Type 0
is_sum_stage sum (TermProduct s j) = HasFactor sum s j
is_sum_stage sum (TermSum s) = (1 ≤ s) × (s ≤ length sum)

-- the product or sum stage of a name
abbrev pub sum_stage_of : (ℕ → ℕ → ℕ) → (Point → List ℕ) → SumOfProducts → SumStage → Point → ℕ → Type 0
sum_stage_of mul feeds sum (TermProduct s j) = IsTermProduct mul feeds sum s j
sum_stage_of mul feeds sum (TermSum s) = IsAtFeeds feeds (λ xs. sum_at mul xs (take s sum))

-- term by term, the products of a term before its sum
abbrev pub is_earlier_sum_stage : SumStage → SumStage → Type 0
is_earlier_sum_stage (TermProduct r i) (TermProduct s j) = (r < s) ⊎ ((r ≡ s) × (i < j))
is_earlier_sum_stage (TermProduct r i) (TermSum s) = r ≤ s
is_earlier_sum_stage (TermSum r) (TermProduct s j) = r < s
is_earlier_sum_stage (TermSum r) (TermSum s) = r < s

-- the stages of a sum
abbrev pub sum_listing : (ℕ → ℕ → ℕ) → (Point → List ℕ) → SumOfProducts → Listing SumStage
sum_listing mul feeds sum = record { is_listed = is_sum_stage sum; stage_of = sum_stage_of mul feeds sum; comes_before = is_earlier_sum_stage }

module _ (k : ℕ) (mul : ℕ → ℕ → ℕ) (feeds : Point → List ℕ) (sum : SumOfProducts) (bound : ℕ) where
  -- of the stages of the sum the first over the bound, with its size; out of memory is free
  abbrev pub IsSumOver : SumFault → Type 0
  IsSumOver (TooManyTerms stage n) = IsOver k mul (sum_listing mul feeds sum) bound stage n
  IsSumOver OutOfMemory = Unit {0}

-- no stage of the sum is over the bound, at these feeds
abbrev pub IsSumWithin : ℕ → (ℕ → ℕ → ℕ) → List Terms → SumOfProducts → ℕ → Type 0
IsSumWithin k mul feeds sum bound = AreAllWithin k mul (sum_listing mul (feed_values mul feeds) sum) bound

-- the first stage of the sum over the bound, at these feeds
abbrev pub IsSumRefusal : ℕ → (ℕ → ℕ → ℕ) → List Terms → SumOfProducts → ℕ → SumFault → Type 0
IsSumRefusal k mul feeds sum bound fault = IsSumOver k mul (feed_values mul feeds) sum bound fault
