-- The stages of a top of instances over a field, and which of them is the first over a bound. Source: Pruss, Kalla, Enescu, DAC 2014;
-- the stages and their order are this project's own.
use Rattle.std.specs.Prelude.{◌≡◌, ℕ, ◌+◌, List, Some, length, slice_get}
use Rattle.poly_mixed.specs.Polynomial.{Point, Terms}
use Rattle.poly_mixed.specs.declared.stage.ReduceFault.TheVariants.{TooManyTerms}
use Rattle.poly_mixed.specs.declared.stage.Stage.{Stage}
use Rattle.poly_mixed.specs.declared.stage.Stage.TheVariants.{InstanceSum}
use Rattle.stage_model.specs.Listing.{Joined, Listing}
use Rattle.stage_model.specs.Stage.{HasPolynomial, HasSize}
use Rattle.compose_model.specs.Values.{AreInstanceValues}
use Rattle.compose_model.specs.Wiring.{feeding_graph}
use Rattle.compose_model.specs.WiredTop.{word_count, IsBuilt, WiredTop}
use Rattle.compose_model.specs.declared.feeder.Feeder.{Feeder}
use Rattle.compose_polys.specs.InstancePolys.{HaveBlockPolys}
use Rattle.compose_polys.specs.Instances.{IsFirstOver}
use Rattle.compose_polys.specs.LevelOrder.{IsLevelOrder}
use Rattle.compose_polys.specs.Walk.{IsWalk, Walk}
use Rattle.compose_polys.specs.Wired.{IsStageOver, IsWiredPoly}
use Rattle.compose_stages.specs.BlockStages.{AreBlocksWithin, BlockStage, IsFirstOfBlocks}
use Rattle.compose_stages.specs.CompositionStages.{composition_stages, IsCompositionWithin, IsFirstOfComposition}
use Rattle.compose_stages.specs.InstanceStages.{instance_stages, top_elements, AreInstancesWithin, IsBlockPoly, IsFirstOfInstances}

module _ (k : ℕ) (mul : ℕ → ℕ → ℕ) {N : Type 0} (listing : Listing N) where
  -- each listed stage has a polynomial
  abbrev pub HavePolynomials : Type 0
  HavePolynomials = (name : N) → listing.is_listed name → HasPolynomial k mul (listing.stage_of name)

  -- each listed stage has a size
  abbrev pub HaveSizes : Type 0
  HaveSizes = (name : N) → listing.is_listed name → (n : ℕ) × HasSize k mul (listing.stage_of name) n

module _ (top : WiredTop) where
  -- the stages of the instances
  abbrev pub top_instance_stages : Listing Stage
  top_instance_stages = instance_stages top.k top.product top.hierarchy top.rows

  -- the stages of the used blocks, and then those of the instances
  abbrev pub top_stages : Listing (Joined BlockStage Stage)
  top_stages = composition_stages top.k top.product top.hierarchy top.rows

  -- of all stages the first over the bound, with its size
  abbrev pub IsFirstStage : ℕ → Joined BlockStage Stage → ℕ → Type 0
  IsFirstStage bound name n = IsFirstOfComposition top.k top.product top.hierarchy top.rows bound name n

  -- of the stages of the used blocks the first over the bound, with its size
  abbrev pub IsFirstBlockStage : ℕ → BlockStage → ℕ → Type 0
  IsFirstBlockStage bound name n = IsFirstOfBlocks top.k top.product top.hierarchy bound name n

  -- of the stages of the instances the first over the bound, with its size
  abbrev pub IsFirstInstanceStage : ℕ → Stage → ℕ → Type 0
  IsFirstInstanceStage bound name n = IsFirstOfInstances top.k top.product top.hierarchy top.rows bound name n

  -- no stage is over the bound
  abbrev pub IsTopWithin : ℕ → Type 0
  IsTopWithin bound = IsCompositionWithin top.k top.product top.hierarchy top.rows bound

  -- no stage of a used block is over the bound
  abbrev pub AreTopBlocksWithin : ℕ → Type 0
  AreTopBlocksWithin bound = AreBlocksWithin top.k top.product top.hierarchy bound

  -- no stage of an instance is over the bound
  abbrev pub AreTopInstancesWithin : ℕ → Type 0
  AreTopInstancesWithin bound = AreInstancesWithin top.k top.product top.hierarchy top.rows bound

  -- the order has the instances by rising level and then by rising number
  abbrev pub IsByLevel : List ℕ → Type 0
  IsByLevel order = IsLevelOrder (feeding_graph top.rows) order

  -- the top is built, and the walk takes its instances by level, with a polynomial for each of its words
  pub record IsBuiltByLevel (walk : Walk) : Type 0 where
    pub built : IsBuilt top
    pub is : IsWalk top walk
    pub many : length walk.words ≡ word_count top
    pub by_level : IsByLevel walk.order

  -- the stage is the first over the bound of the instance at which the walk stops, with its size
  abbrev pub IsFirstOfWalk : Walk → Stage → ℕ → Type 0
  IsFirstOfWalk walk name n = IsFirstOver top.k top.product walk.words walk.blocks top.rows walk.bound walk.order name n

  -- where the instances have the polynomials of their blocks, the stage is the first over the bound of the instances by level
  pub record IsFirstByLevel (bound : ℕ) (name : Stage) (n : ℕ) : Type 0 where
    pub blocks : List Terms
    pub blocks_are : HaveBlockPolys top.k top.product top.hierarchy blocks
    pub over : IsStageOver top.k top.product (word_count top) blocks top.rows bound (TooManyTerms name n)

  -- where the instances have the polynomials of their blocks, all got their own by level, and a feed has its polynomial
  pub record HasPolyByLevel (bound : ℕ) : Type 0 where
    pub blocks : List Terms
    pub blocks_are : HaveBlockPolys top.k top.product top.hierarchy blocks
    pub feed : Feeder
    pub terms : Terms
    pub is : IsWiredPoly top.k top.product (word_count top) blocks top.rows bound feed terms

  -- the polynomial in words of the output of the block of instance i, from 0
  abbrev pub IsBlockPolyAt : ℕ → Terms → Type 0
  IsBlockPolyAt i block = IsBlockPoly top.k top.product top.hierarchy (i + 1) block

  -- at the point's elements instance i, from 0, has the value v, for some values of all instances
  abbrev pub HasInstanceValue : Point → ℕ → ℕ → Type 0
  HasInstanceValue p i v = (es : List ℕ) × AreInstanceValues top.k top.product top.hierarchy top.rows (top_elements top.hierarchy p) es × (slice_get es i ≡ Some v)

  -- the sum of all terms of the block of instance i, from 0, relates the point to v
  abbrev pub IsLastSum : ℕ → Terms → Point → ℕ → Type 0
  IsLastSum i block p v = top_instance_stages.stage_of (InstanceSum (i + 1) (length block)) p v
