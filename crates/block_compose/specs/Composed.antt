-- What comes of a top that only wires instances of blocks: the polynomial of its output in words, or the first refusal.
-- Source: Pruss, Kalla, Enescu, DAC 2014; the refusals and their order are this project's own.
use Rattle.std.specs.Global.{Global}
use Rattle.std.specs.Prelude.{◌≡◌, ℕ, ◌+◌, List, Option, None, Some, Ok, Err, Vec, length, map, slice_get}
use Rattle.lists.specs.Lists.{Has}
use Rattle.outcome.specs.Outcome.{MayRefuse, Outcome, ◌>>=◌, Within}
use Rattle.graph_core.specs.Cycle.{IsCycleOf}
use Rattle.net_core.specs.NetList.{NetList}
use Rattle.net_words.specs.Bind.{BindingOf}
use Rattle.net_words.specs.Binding.{AreWords, Binding}
use Rattle.net_words.specs.declared.word.WordText.{WordText}
use Rattle.net_signature.specs.Body.{BlockValue}
use Rattle.net_signature.specs.Signature.{SignatureValue}
use Rattle.net_blif.specs.Design.{ModelValue}
use Rattle.net_blif.specs.Models.{AreRight}
use Rattle.net_blif.specs.Statement.{Token}
use Rattle.net_flat.specs.Flat.{Flattens}
use Rattle.gf_field.specs.Field.{HasNoZeroDivisors}
use Rattle.gf_field.specs.Ring.{IsRing}
use Rattle.gf_basis.specs.BasisParts.{elements_of, IsBasisOver}
use Rattle.gf_basis.specs.declared.bases.Basis.{Basis}
use Rattle.poly_mixed.specs.Polynomial.{Terms}
use Rattle.poly_mixed.specs.declared.stage.Stage.{Stage}
use Rattle.circuit_model.specs.Circuit.{Circuit}
use Rattle.stage_model.specs.Listing.{Earlier, Later}
use Rattle.stage_model.specs.OutputInWords.{IsOutputInWords}
use Rattle.abstraction.specs.Stages.{joined}
use Rattle.compose_polys.specs.LevelOrder.{first_numbers}
use Rattle.compose_model.specs.Hierarchy.{Hierarchy}
use Rattle.compose_model.specs.Values.{IsTop}
use Rattle.compose_model.specs.Wiring.{feeding_graph, rows_in, IsWithoutCycle}
use Rattle.compose_model.specs.declared.feeder.Feeder.{Feeder}
use Rattle.compose_blocks.specs.Plan.{UsesOf}
use Rattle.compose_blocks.specs.Planned.{CanAllBind}
use Rattle.compose_blocks.specs.declared.plan_fault.PlanFault.{PlanFault}
use Rattle.compose_blocks.specs.declared.plan_fault.PlanFault.TheVariants as plans
use Rattle.compose_wiring.specs.Answer.{AreWired}
use Rattle.compose_wiring.specs.Refusal.{IsWiringFault}
use Rattle.compose_wiring.specs.declared.fault.WiringFault.{WiringFault}
use Rattle.compose_wiring.specs.declared.fault.WiringFault.TheVariants as wirings
use Rattle.compose_stages.specs.CompositionStages.{IsCompositionWithin, IsFirstOfComposition}
use Rattle.block_compose.specs.declared.fault.ComposeFault.{ComposeFault}
use Rattle.block_compose.specs.declared.fault.ComposeFault.TheVariants.{FedInTop, GateInTop, NoBlock, BlockNet, BlockLatch, BlockBind, NotWords, OutputNotWords, InstanceLoop, TooManyTerms, OutOfMemory}

-- a design with the words and blocks of a signature, and with lists of bases by their elements
abbrev pub hierarchy_of : List ModelValue → SignatureValue → List (List Basis) → Hierarchy
hierarchy_of design signature bases = record { design = design; words = signature.words; blocks = signature.blocks; bases = map (map elements_of) bases }

-- lists of bases
abbrev pub bases_in : List (Vec Basis Global) → List (List Basis)
bases_in lists = map (λ list. list.items) lists

-- ---- what is given

-- list n has one basis of the field for each of these words
pub record HasBases (k : ℕ) (mul : ℕ → ℕ → ℕ) (bases : List (List Basis)) (n : ℕ) (words : List WordText) : Type 0 where
  pub list : List Basis
  pub at : slice_get bases n ≡ Some list
  pub long : length list ≡ length words
  pub each : (basis : Basis) → Has list basis → IsBasisOver k mul basis

-- list n + 1 has them for the words of block n
abbrev pub HaveBlockBases : (k : ℕ) (mul : ℕ → ℕ → ℕ) → List (List Basis) → List BlockValue → Type 0
HaveBlockBases k mul bases blocks = (number : ℕ) (block : BlockValue) → slice_get blocks number ≡ Some block → HasBases k mul bases (number + 1) block.words

-- the flattened top binds to the signature; its words, and those of each block, can be bound, where each that is not fed has k nets and none
-- of a block is fed; and all have their bases of this field
pub record IsComposable (k : ℕ) (mul : ℕ → ℕ → ℕ) (design : List ModelValue) (signature : SignatureValue) (bases : List (List Basis)) : Type 0 where
  pub net : NetList
  pub flat : Flattens design 0 (Ok net)
  pub binding : Binding
  pub bound : BindingOf net signature.words signature.feeds (Ok binding)
  pub words_are : AreWords k signature.words
  pub blocks_are : CanAllBind k signature.blocks
  pub top : HasBases k mul bases 0 signature.words
  pub blocks : HaveBlockBases k mul bases signature.blocks

-- ---- the steps

-- the fault of the blocks, and that of the wiring, as one of the composition; want of memory is want of memory
abbrev pub fault_of_plan : PlanFault → ComposeFault
fault_of_plan plans.FedInTop = FedInTop
fault_of_plan (plans.GateInTop line) = GateInTop line
fault_of_plan (plans.NoBlock model) = NoBlock model
fault_of_plan (plans.BlockNet model) = BlockNet model
fault_of_plan (plans.BlockLatch model) = BlockLatch model
fault_of_plan (plans.BlockBind model) = BlockBind model
fault_of_plan plans.OutOfMemory = OutOfMemory

abbrev pub fault_of_wiring : WiringFault → ComposeFault
fault_of_wiring (wirings.NotWords instance word) = NotWords instance word
fault_of_wiring wirings.OutputNotWords = OutputNotWords
fault_of_wiring wirings.OutOfMemory = OutOfMemory

-- what feeds each instance and the output word, or the first word that nothing fits
abbrev pub WiringOf : Hierarchy → Outcome WiringFault (List (List Feeder) × Feeder)
WiringOf h (Ok wiring) = AreWired h wiring.0 wiring.1
WiringOf h (Err wirings.OutOfMemory) = ⊥
WiringOf h (Err fault) = IsWiringFault h fault

-- the cycle that the walk over all instances finds begins with the instance of this number, from 1
pub record IsCycleThrough (rows : List (List Feeder)) (number : ℕ) : Type 0 where
  pub cycle : List ℕ
  pub is : IsCycleOf (feeding_graph rows) (first_numbers (length rows)) cycle
  pub instance : ℕ
  pub first : slice_get cycle 0 ≡ Some instance
  pub number_is : number ≡ instance + 1

-- no instances feed each other in a cycle, or the first of a cycle is refused
abbrev pub HasNoCycle : List (List Feeder) → Outcome ComposeFault (Unit {0})
HasNoCycle rows (Ok u) = IsWithoutCycle rows
HasNoCycle rows (Err (InstanceLoop number)) = IsCycleThrough rows number
HasNoCycle rows (Err fault) = ⊥

module _ (k : ℕ) (mul : ℕ → ℕ → ℕ) (h : Hierarchy) (rows : List (List Feeder)) (bound : ℕ) where
  -- these are the terms of the output of the flat top in its words, and no stage is over the bound
  pub record IsComposed (ts : Terms) : Type 0 where
    pub top : Circuit
    pub top_is : IsTop k mul h top
    pub output : IsOutputInWords top ts
    pub within : IsCompositionWithin k mul h rows bound

  -- the stage of the block of this model is the first over the bound
  pub record IsBlockOver (model : Token) (stage : Stage) (terms : ℕ) : Type 0 where
    pub number : ℕ
    pub block : BlockValue
    pub found : slice_get h.blocks number ≡ Some block
    pub model_is : model ≡ block.model
    pub over : IsFirstOfComposition k mul h rows bound (Earlier (number, joined stage)) terms

  -- the polynomial in words, where no stage is over the bound, or the first that is, of a block or of an instance
  abbrev pub StagesOf : Outcome ComposeFault Terms
  StagesOf (Ok ts) = IsComposed ts
  StagesOf (Err (TooManyTerms (Some model) stage terms)) = IsBlockOver model stage terms
  StagesOf (Err (TooManyTerms None stage terms)) = IsFirstOfComposition k mul h rows bound (Later stage) terms
  StagesOf (Err fault) = ⊥

-- ---- the whole

-- What comes of the top of a hierarchy, whose words and blocks are those of the signature: first the blocks of its instances, then
-- its wiring, then whether instances feed each other in a cycle, and then the stages.
abbrev pub ComposesIn : ℕ → (ℕ → ℕ → ℕ) → SignatureValue → Hierarchy → ℕ → Outcome ComposeFault Terms
ComposesIn k mul signature h bound = do
  uses ← Within fault_of_plan (UsesOf h.design signature)
  wiring ← Within fault_of_wiring (WiringOf h)
  acyclic ← HasNoCycle wiring.0
  StagesOf k mul h wiring.0 bound

-- What comes of a top with lists of bases.
abbrev pub Composes : ℕ → (ℕ → ℕ → ℕ) → List ModelValue → SignatureValue → List (List Basis) → ℕ → Outcome ComposeFault Terms
Composes k mul design signature bases bound = ComposesIn k mul signature (hierarchy_of design signature bases) bound

-- the refusal of a composition; out of memory is none
abbrev pub refusal : ComposeFault → Option ComposeFault
refusal OutOfMemory = None
refusal fault = Some fault

-- the fault is one that may come, or out of memory
abbrev pub MayFault : {A : Type 0} → Outcome ComposeFault A → ComposeFault → Type 0
MayFault outcome fault = MayRefuse outcome (refusal fault)

-- what comes of the stages of a top, where bases and rows of feeds are as the program has them
abbrev pub StagesFor : ℕ → (ℕ → ℕ → ℕ) → List ModelValue → SignatureValue → List (Vec Basis Global) → List (Vec Feeder Global) → ℕ → Outcome ComposeFault Terms
StagesFor k mul design signature bases rows bound = StagesOf k mul (hierarchy_of design signature (bases_in bases)) (rows_in rows) bound

-- models with the words and blocks of a signature, and bases, over the field of 2 to the k elements with this product
pub record Composition : Type 0 where
  pub k : ℕ
  pub product : ℕ → ℕ → ℕ
  pub design : List ModelValue
  pub signature : SignatureValue
  pub bases : List (List Basis)

-- over a field, what can be composed, of a design that is right
pub record CanCompose (given : Composition) : Type 0 where
  pub ring : IsRing given.k given.product
  pub no_zero_divisors : HasNoZeroDivisors given.k given.product
  pub right : AreRight given.design (Ok tt)
  pub composable : IsComposable given.k given.product given.design given.signature given.bases

-- what comes of it
abbrev pub Comes : Composition → ℕ → Outcome ComposeFault Terms
Comes given bound = Composes given.k given.product given.design given.signature given.bases bound
