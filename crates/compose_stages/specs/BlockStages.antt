-- The stages of the blocks that instances of a top use: the cuts of a block's circuit and then those of its words, block after block by
-- first use. Source: this project's own.
use Rattle.std.specs.Prelude.{◌≡◌, ◌≢◌, ◌⊎◌, ℕ, ◌<◌, Some, slice_get}
use Rattle.net_blif.specs.Top.{instances_of, model_in}
use Rattle.net_blif.specs.declared.item.Item.{Item}
use Rattle.poly_mixed.specs.Polynomial.{Point}
use Rattle.poly_mixed.specs.declared.stage.Stage.{Stage}
use Rattle.circuit_model.specs.Circuit.{Circuit}
use Rattle.stage_model.specs.CircuitListing.{circuit_stages}
use Rattle.stage_model.specs.Listing.{AreAllWithin, IsOver, Joined, Listing}
use Rattle.compose_model.specs.Hierarchy.{block_of, Hierarchy}
use Rattle.compose_model.specs.Values.{IsBlockOf}

-- block b, from 0 in the order of the signature, is that of instance i, from 0, and of none before it
pub record IsFirstUse (h : Hierarchy) (b i : ℕ) : Type 0 where
  pub item : Item
  pub at : slice_get (instances_of h.design) i ≡ Some item
  pub named : block_of h (model_in item) ≡ Some b
  pub first : (j : ℕ) (other : Item) → j < i → slice_get (instances_of h.design) j ≡ Some other → block_of h (model_in other) ≢ Some b

-- a block by its number from 0, and a stage of its circuit
abbrev pub BlockStage : Type 0
BlockStage = ℕ × Joined Stage Stage

module _ (k : ℕ) (mul : ℕ → ℕ → ℕ) (h : Hierarchy) where
  -- an instance uses block b, which has this circuit, flattened alone
  pub record IsUsedBlock (b : ℕ) (circuit : Circuit) : Type 0 where
    pub place : ℕ
    pub use_is : IsFirstUse h b place
    pub is : IsBlockOf k mul h use_is.item circuit

  -- the block is used, and its circuit has such a stage
  abbrev pub is_block_stage : BlockStage → Type 0
  is_block_stage name = (circuit : Circuit) × IsUsedBlock name.0 circuit × (circuit_stages circuit).is_listed name.1

  -- the stage of the block's circuit
  abbrev pub block_stage_of : BlockStage → Point → ℕ → Type 0
  block_stage_of name p e = (circuit : Circuit) × IsUsedBlock name.0 circuit × (circuit_stages circuit).stage_of name.1 p e

  -- the blocks by first use, and the stages of one block in their order
  abbrev pub is_earlier_block_stage : BlockStage → BlockStage → Type 0
  is_earlier_block_stage name other =
      ((i : ℕ) × (j : ℕ) × IsFirstUse h name.0 i × IsFirstUse h other.0 j × (i < j))
      ⊎ ((name.0 ≡ other.0) × ((circuit : Circuit) × IsUsedBlock name.0 circuit × (circuit_stages circuit).comes_before name.1 other.1))

  -- the stages of all used blocks
  abbrev pub block_stages : Listing BlockStage
  block_stages = record { is_listed = is_block_stage; stage_of = block_stage_of; comes_before = is_earlier_block_stage }

  -- of the stages of all used blocks the first over the bound, with its size
  abbrev pub IsFirstOfBlocks : ℕ → BlockStage → ℕ → Type 0
  IsFirstOfBlocks bound name n = IsOver k mul block_stages bound name n

  -- no stage of a used block is over the bound
  abbrev pub AreBlocksWithin : ℕ → Type 0
  AreBlocksWithin bound = AreAllWithin k mul block_stages bound

  -- no stage of the circuit of a used block is over the bound
  abbrev pub AreUsedWithin : ℕ → Type 0
  AreUsedWithin bound = (b : ℕ) (circuit : Circuit) → IsUsedBlock b circuit → AreAllWithin k mul (circuit_stages circuit) bound

  -- no stage of a block that is first used before instance i, from 0, is over the bound
  abbrev pub AreEarlierWithin : ℕ → ℕ → Type 0
  AreEarlierWithin bound i = (b : ℕ) (circuit : Circuit) → (used : IsUsedBlock b circuit) → used.place < i → AreAllWithin k mul (circuit_stages circuit) bound

  -- of the stages of its block's circuit the first over the bound, where no stage of a block of earlier first use is
  abbrev pub IsFirstOfUsed : ℕ → BlockStage → ℕ → Type 0
  IsFirstOfUsed bound name n = (circuit : Circuit) × (used : IsUsedBlock name.0 circuit) × AreEarlierWithin bound used.place × IsOver k mul (circuit_stages circuit) bound name.1 n
