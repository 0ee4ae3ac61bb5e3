-- What the walk over the lines of the top finds. Source: this project's own.
use Rattle.std.specs.Prelude.{◌≡◌, ◌⊎◌, ℕ, true, false, List, [], ◌∷◌, ◌++◌, Option, Some, length, slice_get}
use Rattle.net_words.specs.Binding.{BoundNet}
use Rattle.net_signature.specs.Body.{BlockValue}
use Rattle.net_blif.specs.Design.{model_named, ModelValue}
use Rattle.net_blif.specs.Top.{is_instance}
use Rattle.net_blif.specs.declared.item.Item.{Item}
use Rattle.compose_blocks.specs.Block.{IsBlockCircuit, IsBlockFault}
use Rattle.compose_blocks.specs.declared.block_fault.BlockFault.{BlockFault}
use Rattle.compose_blocks.specs.declared.block_fault.BlockFault.TheVariants.{NoNet, HasLatch, NotBound, OutOfMemory}
use Rattle.compose_blocks.specs.Uses.{IsBlockAt}
use Rattle.net_blif.specs.Statement.{Token}
use Rattle.compose_blocks.specs.declared.uses.Found.{Found}
use Rattle.compose_blocks.specs.declared.plan_fault.PlanFault.{PlanFault}
use Rattle.compose_blocks.specs.declared.plan_fault.PlanFault.TheVariants.{BlockNet, BlockLatch, BlockBind}
use Rattle.compose_blocks.specs.declared.plan_fault.PlanFault.TheVariants as plans

module _ (design : List ModelValue) (blocks : List BlockValue) where
  -- the number of an instance's block, and that of its model
  pub record IsFound (item : Item) (found : Found) : Type 0 where
    pub block : BlockValue
    pub is : IsBlockAt design blocks item found.block found.model block

  -- those of instances, one by one
  abbrev pub AreFound : List Item → List Found → Type 0
  AreFound [] [] = Unit {0}
  AreFound [] (f ∷ fs) = ⊥
  AreFound (i ∷ is) [] = ⊥
  AreFound (i ∷ is) (f ∷ fs) = IsFound i f × AreFound is fs

  -- an instance adds what is found of it, and another line nothing
  abbrev pub IsAdded : Item → List Found → List Found → Type 0
  IsAdded item old new = ((is_instance item ≡ true) × ((found : Found) × IsFound item found × (new ≡ old ++ found ∷ []))) ⊎ ((is_instance item ≡ false) × (new ≡ old))

  -- each circuit that is kept is that of its block, and of the model of the block's name
  pub record AreCircuits (circuits : List (Option BoundNet)) : Type 0 where
    pub long : length circuits ≡ length blocks
    pub each : (number : ℕ) (circuit : BoundNet) (block : BlockValue) → slice_get circuits number ≡ Some (Some circuit) → slice_get blocks number ≡ Some block → (model : ℕ) × (model_named design block.model ≡ Some model) × IsBlockCircuit design model block.words circuit

-- the block of this number has a circuit among those that are kept
abbrev pub HasCircuit : List (Option BoundNet) → ℕ → Type 0
HasCircuit circuits number = (circuit : BoundNet) × (slice_get circuits number ≡ Some (Some circuit))

-- what has a circuit keeps it
abbrev pub KeepsCircuits : List (Option BoundNet) → List (Option BoundNet) → Type 0
KeepsCircuits old new = (number : ℕ) (circuit : BoundNet) → slice_get old number ≡ Some (Some circuit) → slice_get new number ≡ Some (Some circuit)

-- a reason why a block has no circuit as a refusal of the block of this name
abbrev pub refused_as : BlockFault → Token → PlanFault
refused_as NoNet name = BlockNet name
refused_as HasLatch name = BlockLatch name
refused_as NotBound name = BlockBind name
refused_as OutOfMemory name = plans.OutOfMemory

-- the block has no circuit, and this is the refusal of its name, or out of memory
pub record IsRefusedBlock (design : List ModelValue) (block : BlockValue) (model : ℕ) (fault : PlanFault) : Type 0 where
  pub reason : BlockFault
  pub refused : IsBlockFault design model block.words reason
  pub is : (fault ≡ plans.OutOfMemory) ⊎ (fault ≡ refused_as reason block.model)
