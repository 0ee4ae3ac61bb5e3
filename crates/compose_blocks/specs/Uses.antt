-- The blocks of instances with their circuits, and the refusals of a block that has none.
-- Source: Pruss, Kalla, Enescu, DAC 2014; the refusals are this project's own.
use Rattle.std.specs.Prelude.{◌≡◌, ℕ, List, Ok, Err, Some, slice_get}
use Rattle.outcome.specs.Outcome.{Outcome}
use Rattle.net_words.specs.Binding.{BoundNet}
use Rattle.net_signature.specs.Body.{BlockValue}
use Rattle.net_blif.specs.Design.{model_named, ModelValue}
use Rattle.net_blif.specs.Statement.{Token}
use Rattle.net_blif.specs.Top.{model_in}
use Rattle.net_blif.specs.declared.item.Item.{Item}
use Rattle.compose_model.specs.Hierarchy.{block_from}
use Rattle.compose_blocks.specs.Block.{IsBlockCircuit, IsBlockFault}
use Rattle.compose_blocks.specs.declared.block_fault.BlockFault.{BlockFault}
use Rattle.compose_blocks.specs.declared.block_fault.BlockFault.TheVariants.{NoNet, HasLatch, NotBound}
use Rattle.compose_blocks.specs.declared.plan_fault.PlanFault.{PlanFault}
use Rattle.compose_blocks.specs.declared.plan_fault.PlanFault.TheVariants.{BlockNet, BlockLatch, BlockBind}

-- a block with its number among the blocks, and its circuit
pub record BlockUse : Type 0 where
  pub number : ℕ
  pub block : BlockValue
  pub circuit : BoundNet

module _ (design : List ModelValue) (blocks : List BlockValue) (item : Item) where
  -- the block of an instance, by its number, and its model, by its number in the design
  pub record IsBlockAt (number model : ℕ) (block : BlockValue) : Type 0 where
    pub named : block_from 0 blocks (model_in item) ≡ Some number
    pub found : slice_get blocks number ≡ Some block
    pub model_is : model_named design (model_in item) ≡ Some model

  -- the block of an instance, with the circuit of its model, flattened alone
  pub record IsUse (one_use : BlockUse) : Type 0 where
    pub model : ℕ
    pub is_block : IsBlockAt one_use.number model one_use.block
    pub circuit : IsBlockCircuit design model one_use.block.words one_use.circuit

  -- the block of an instance, which is of the model of this name, has no circuit for this reason
  pub record IsRefused (reason : BlockFault) (name : Token) : Type 0 where
    pub number : ℕ
    pub model : ℕ
    pub block : BlockValue
    pub is_block : IsBlockAt number model block
    pub name_is : name ≡ block.model
    pub refused : IsBlockFault design model block.words reason

  -- the block of an instance with its circuit, or why it has none
  abbrev pub UseOf : Outcome PlanFault BlockUse
  UseOf (Ok one_use) = IsUse one_use
  UseOf (Err (BlockNet name)) = IsRefused NoNet name
  UseOf (Err (BlockLatch name)) = IsRefused HasLatch name
  UseOf (Err (BlockBind name)) = IsRefused NotBound name
  UseOf (Err fault) = ⊥
