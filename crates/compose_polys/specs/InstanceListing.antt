-- The stages of an instance as a listing: the products of its block's terms with their first factors, and the sums of these terms,
-- at what feeds the instance. Source: this project's own.
use Rattle.std.specs.Prelude.{◌≡◌, ◌⊎◌, ℕ, ◌<◌, ◌≤◌, ◌^◌, List, length, take}
use Rattle.poly_mixed.specs.Polynomial.{Point, Terms}
use Rattle.poly_mixed.specs.declared.stage.ReduceFault.{ReduceFault}
use Rattle.poly_mixed.specs.declared.stage.Stage.{Stage}
use Rattle.poly_mixed.specs.declared.stage.Stage.TheVariants.{Cut, WordProduct, WordSum, SpecProduct, SpecSum, InstanceProduct, InstanceSum}
use Rattle.stage_model.specs.Listing.{Listing, Nothing, AreAllWithin, IsRefusal}
use Rattle.term_expand.specs.Sums.{SumOfProducts}
use Rattle.term_expand.specs.SumValue.{sum_at}
use Rattle.term_expand.specs.SumListing.{HasFactor, IsAtFeeds, IsTermProduct}
use Rattle.compose_polys.specs.Instance.{block_terms, feed_values}

-- the names of the product and sum stages of instance i
abbrev pub is_instance_stage : ℕ → SumOfProducts → Stage → Type 0
is_instance_stage i block (InstanceProduct n s j) = (n ≡ i) × HasFactor block s j
is_instance_stage i block (InstanceSum n s) = (n ≡ i) × (1 ≤ s) × (s ≤ length block)
is_instance_stage i block (Cut t) = ⊥
is_instance_stage i block (WordProduct w s j) = ⊥
is_instance_stage i block (WordSum w s) = ⊥
is_instance_stage i block (SpecProduct s j) = ⊥
is_instance_stage i block (SpecSum s) = ⊥

-- the product or sum stage of a name
abbrev pub instance_stage_of : (ℕ → ℕ → ℕ) → (Point → List ℕ) → SumOfProducts → Stage → Point → ℕ → Type 0
instance_stage_of mul feeds block (InstanceProduct n s j) = IsTermProduct mul feeds block s j
instance_stage_of mul feeds block (InstanceSum n s) = IsAtFeeds feeds (λ xs. sum_at mul xs (take s block))
instance_stage_of mul feeds block (Cut t) = Nothing
instance_stage_of mul feeds block (WordProduct w s j) = Nothing
instance_stage_of mul feeds block (WordSum w s) = Nothing
instance_stage_of mul feeds block (SpecProduct s j) = Nothing
instance_stage_of mul feeds block (SpecSum s) = Nothing

-- term by term, the products of a term before its sum
abbrev pub is_earlier_instance_stage : Stage → Stage → Type 0
is_earlier_instance_stage (InstanceProduct m r i) (InstanceProduct n s j) = (r < s) ⊎ ((r ≡ s) × (i < j))
is_earlier_instance_stage (InstanceProduct m r i) (InstanceSum n s) = r ≤ s
is_earlier_instance_stage (InstanceSum m r) (InstanceProduct n s j) = r < s
is_earlier_instance_stage (InstanceSum m r) (InstanceSum n s) = r < s
is_earlier_instance_stage name other = ⊥

-- the stages of instance i of a block with these terms
abbrev pub instance_listing : (ℕ → ℕ → ℕ) → (Point → List ℕ) → ℕ → SumOfProducts → Listing Stage
instance_listing mul feeds i block = record { is_listed = is_instance_stage i block; stage_of = instance_stage_of mul feeds block; comes_before = is_earlier_instance_stage }

-- each listed stage relates each point, whatever its elements, to an element of the field of 2 to the k elements
abbrev pub HaveValuesEverywhere : ℕ → Listing Stage → Type 0
HaveValuesEverywhere k listing = (name : Stage) (p : Point) → listing.is_listed name → (e : ℕ) × listing.stage_of name p e × (e < 2 ^ k)

-- no stage of instance i of the block is over the bound, at these feeds
abbrev pub IsInstanceWithin : ℕ → (ℕ → ℕ → ℕ) → List Terms → ℕ → Terms → ℕ → Type 0
IsInstanceWithin k mul feeds i block bound = AreAllWithin k mul (instance_listing mul (feed_values mul feeds) i (block_terms block)) bound

-- of the stages of instance i of the block, at these feeds, the first over the bound, with its size; out of memory is free
abbrev pub IsInstanceRefusal : ℕ → (ℕ → ℕ → ℕ) → List Terms → ℕ → Terms → ℕ → ReduceFault → Type 0
IsInstanceRefusal k mul feeds i block bound fault = IsRefusal k mul (instance_listing mul (feed_values mul feeds) i (block_terms block)) bound fault
