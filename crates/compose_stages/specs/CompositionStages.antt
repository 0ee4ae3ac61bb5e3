-- All stages of a composition by words: those of the used blocks, and then those of the instances. Source: Pruss, Kalla, Enescu, DAC
-- 2014; the stages and their order are this project's own.
use Rattle.std.specs.Prelude.{ℕ, List}
use Rattle.poly_mixed.specs.declared.stage.Stage.{Stage}
use Rattle.stage_model.specs.Listing.{followed_by, AreAllWithin, IsOver, Joined, Listing}
use Rattle.compose_model.specs.Hierarchy.{Hierarchy}
use Rattle.compose_model.specs.declared.feeder.Feeder.{Feeder}
use Rattle.compose_stages.specs.BlockStages.{block_stages, BlockStage}
use Rattle.compose_stages.specs.InstanceStages.{instance_stages}

module _ (k : ℕ) (mul : ℕ → ℕ → ℕ) (h : Hierarchy) (rows : List (List Feeder)) where
  -- the stages of the used blocks by first use, and then those of the instances by level and number, where row i is what feeds instance i
  abbrev pub composition_stages : Listing (Joined BlockStage Stage)
  composition_stages = followed_by (block_stages k mul h) (instance_stages k mul h rows)

  -- of all stages of the composition the first over the bound, with its size
  abbrev pub IsFirstOfComposition : ℕ → Joined BlockStage Stage → ℕ → Type 0
  IsFirstOfComposition bound name n = IsOver k mul composition_stages bound name n

  -- no stage of the composition is over the bound
  abbrev pub IsCompositionWithin : ℕ → Type 0
  IsCompositionWithin bound = AreAllWithin k mul composition_stages bound
