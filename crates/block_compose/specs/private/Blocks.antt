-- The polynomials of blocks, as they are kept while the instances are taken one after another. Source: this project's own.
use Rattle.std.specs.Prelude.{◌≡◌, ◌≢◌, ◌⊎◌, ℕ, ◌+◌, ◌<◌, ◌^◌, List, Option, None, Some, length, slice_get}
use Rattle.net_words.specs.Binding.{BoundNet}
use Rattle.net_signature.specs.Body.{BlockValue}
use Rattle.net_blif.specs.Statement.{Token}
use Rattle.gf_basis.specs.declared.bases.Basis.{Basis}
use Rattle.poly_mixed.specs.Polynomial.{Polynomial, Terms}
use Rattle.poly_mixed.specs.declared.stage.ReduceFault.{ReduceFault}
use Rattle.poly_mixed.specs.declared.stage.ReduceFault.TheVariants as stages
use Rattle.circuit_model.specs.Bases.{circuit_in, AreBases}
use Rattle.stage_model.specs.Listing.{AreAllWithin}
use Rattle.stage_model.specs.OutputInWords.{IsOutputInWords}
use Rattle.abstraction.specs.Stages.{stages_in, IsFirstRefusal}
use Rattle.block_compose.specs.declared.fault.ComposeFault.{ComposeFault}
use Rattle.block_compose.specs.declared.fault.ComposeFault.TheVariants.{TooManyTerms, OutOfMemory}

-- a refused stage as one of the block of this model
abbrev pub block_fault_of : ReduceFault → Token → ComposeFault
block_fault_of (stages.TooManyTerms stage terms) model = TooManyTerms (Some model) stage terms
block_fault_of stages.OutOfMemory model = OutOfMemory

-- a refused stage as one of an instance
abbrev pub instance_fault_of : ReduceFault → ComposeFault
instance_fault_of (stages.TooManyTerms stage terms) = TooManyTerms None stage terms
instance_fault_of stages.OutOfMemory = OutOfMemory

-- a block has a polynomial
abbrev pub HasPoly : List (Option Polynomial) → ℕ → Type 0
HasPoly polys number = (poly : Polynomial) × (slice_get polys number ≡ Some (Some poly))

-- place by place, these are the polynomials of the blocks of these numbers
pub record AreTaken (polys : List (Option Polynomial)) (numbers : List ℕ) (list : List Polynomial) : Type 0 where
  pub long : length list ≡ length numbers
  pub each : (i number : ℕ) (poly : Polynomial) → slice_get numbers i ≡ Some number → slice_get list i ≡ Some poly → slice_get polys number ≡ Some (Some poly)

-- what has a polynomial keeps it
abbrev pub KeepsPolys : List (Option Polynomial) → List (Option Polynomial) → Type 0
KeepsPolys old new = (number : ℕ) (poly : Polynomial) → slice_get old number ≡ Some (Some poly) → slice_get new number ≡ Some (Some poly)

module _ (k : ℕ) (mul : ℕ → ℕ → ℕ) (blocks : List BlockValue) (circuits : List (Option BoundNet)) (bases : List (List Basis)) where
  -- a block with its circuit and the bases of its words, which are of this field
  pub record IsKeptBlock (number : ℕ) (circuit : BoundNet) (list : List Basis) : Type 0 where
    pub block : BlockValue
    pub found : slice_get blocks number ≡ Some block
    pub at : slice_get circuits number ≡ Some (Some circuit)
    pub bases_at : slice_get bases (number + 1) ≡ Some list
    pub bits : circuit.binding.k ≡ k
    pub bases_are : AreBases k mul circuit list

  -- the block has a circuit and bases
  abbrev pub IsKept : ℕ → Type 0
  IsKept number = (circuit : BoundNet) × (list : List Basis) × IsKeptBlock number circuit list

  -- so has the block of each of these numbers
  abbrev pub AreKeptBlocks : List ℕ → Type 0
  AreKeptBlocks numbers = (i number : ℕ) → slice_get numbers i ≡ Some number → IsKept number

  module _ (bound : ℕ) where
    -- the terms of a block's output in words, where none of its stages is over the bound
    pub record IsBlockPoly (number : ℕ) (ts : Terms) : Type 0 where
      pub circuit : BoundNet
      pub list : List Basis
      pub kept : IsKeptBlock number circuit list
      pub within : AreAllWithin k mul (stages_in k mul circuit list) bound
      pub output : IsOutputInWords (circuit_in k mul circuit list) ts
      pub few : length ts < 2 ^ 32

    -- each polynomial is that of its block
    pub record ArePolys (polys : List (Option Polynomial)) : Type 0 where
      pub long : length polys ≡ length blocks
      pub each : (number : ℕ) (poly : Polynomial) → slice_get polys number ≡ Some (Some poly) → IsBlockPoly number poly.terms

    -- a stage of the block is the first over the bound
    pub record IsStageRefused (number : ℕ) (fault : ComposeFault) : Type 0 where
      pub circuit : BoundNet
      pub list : List Basis
      pub kept : IsKeptBlock number circuit list
      pub refused : ReduceFault
      pub is : IsFirstRefusal k mul (stages_in k mul circuit list) bound refused
      pub fault_is : fault ≡ block_fault_of refused kept.block.model

    -- the block is refused at this stage, or there is no memory
    abbrev pub IsRefusedBlock : ℕ → ComposeFault → Type 0
    IsRefusedBlock number fault = (fault ≡ OutOfMemory) ⊎ IsStageRefused number fault

    -- the first block of an instance that is refused
    pub record IsFirstBlockOver (numbers : List ℕ) (fault : ComposeFault) : Type 0 where
      pub place : ℕ
      pub number : ℕ
      pub at : slice_get numbers place ≡ Some number
      pub refused : IsStageRefused number fault
      pub before : (j m : ℕ) → j < place → slice_get numbers j ≡ Some m → (m ≢ number) × ((ts : Terms) × IsBlockPoly m ts)

    -- so it is, or there is no memory
    abbrev pub IsFirstRefused : List ℕ → ComposeFault → Type 0
    IsFirstRefused numbers fault = (fault ≡ OutOfMemory) ⊎ IsFirstBlockOver numbers fault
