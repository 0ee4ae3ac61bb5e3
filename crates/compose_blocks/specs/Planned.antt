-- The blocks of the instances of a top and their circuits, as they are kept. Source: this project's own.
use Rattle.std.specs.Prelude.{◌≡◌, ℕ, List, Ok, Option, None, Some, length, slice_get}
use Rattle.std.specs.List.{AllByRecursion}
use Rattle.std.specs.Prelude.{◌≢◌}
use Rattle.outcome.specs.Outcome.{MayRefuse, Outcome}
use Rattle.net_words.specs.Binding.{AreWords, BoundNet}
use Rattle.net_words.specs.declared.word.Role.TheVariants.{Fed}
use Rattle.net_words.specs.declared.word.WordText.{WordText}
use Rattle.net_signature.specs.Body.{BlockValue}
use Rattle.net_signature.specs.Signature.{SignatureValue}
use Rattle.net_blif.specs.Design.{ModelValue}
use Rattle.compose_blocks.specs.Plan.{UsesOf}
use Rattle.compose_blocks.specs.Uses.{BlockUse}
use Rattle.compose_blocks.specs.declared.plan_fault.PlanFault.{PlanFault}
use Rattle.compose_blocks.specs.declared.plan_fault.PlanFault.TheVariants.{OutOfMemory}

-- the refusal of a top; out of memory is none
abbrev pub refusal : PlanFault → Option PlanFault
refusal OutOfMemory = None
refusal fault = Some fault

-- the fault is one that may come, or out of memory
abbrev pub MayFault : {A : Type 0} → Outcome PlanFault A → PlanFault → Type 0
MayFault outcome fault = MayRefuse outcome (refusal fault)

-- the words of a block can be bound, and none of them is fed
pub record CanBind (k : ℕ) (words : List WordText) : Type 0 where
  pub words_are : AreWords k words
  pub unfed : AllByRecursion (λ (word : WordText). word.role ≢ Fed) words

-- so can those of each block
abbrev pub CanAllBind : ℕ → List BlockValue → Type 0
CanAllBind k blocks = (number : ℕ) (block : BlockValue) → slice_get blocks number ≡ Some block → CanBind k block.words

-- place by place, the number of the block that an instance uses, and by this number the block's circuit
pub record AreKept (uses : List BlockUse) (numbers : List ℕ) (circuits : List (Option BoundNet)) : Type 0 where
  pub long : length numbers ≡ length uses
  pub number : (i : ℕ) (one_use : BlockUse) → slice_get uses i ≡ Some one_use → slice_get numbers i ≡ Some one_use.number
  pub circuit : (i : ℕ) (one_use : BlockUse) → slice_get uses i ≡ Some one_use → slice_get circuits one_use.number ≡ Some (Some one_use.circuit)

-- these are the blocks of the top's instances
pub record IsPlanned (design : List ModelValue) (signature : SignatureValue) (numbers : List ℕ) (circuits : List (Option BoundNet)) : Type 0 where
  pub uses : List BlockUse
  pub are : UsesOf design signature (Ok uses)
  pub kept : AreKept uses numbers circuits
