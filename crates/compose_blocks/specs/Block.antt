-- The circuit of a block, and why there is none. Source: Pruss, Kalla, Enescu, DAC 2014; the order of refusals is this project's own.
use Rattle.std.specs.Prelude.{◌≡◌, ◌≢◌, ℕ, List, [], Ok, Err, map}
use Rattle.net_core.specs.NetList.{NetList}
use Rattle.net_words.specs.Bind.{BindingOf}
use Rattle.net_words.specs.Binding.{BoundNet}
use Rattle.net_words.specs.declared.binding.BindFault.{BindFault}
use Rattle.net_words.specs.declared.word.WordText.{WordText}
use Rattle.net_blif.specs.Design.{ModelValue}
use Rattle.net_flat.specs.Flat.{Flattens}
use Rattle.net_flat.specs.declared.flat_fault.FlatFault.{FlatFault}
use Rattle.gf_basis.specs.BasisParts.{elements_of}
use Rattle.gf_basis.specs.declared.bases.Basis.{Basis}
use Rattle.circuit_model.specs.Bases.{circuit_in}
use Rattle.compose_model.specs.Hierarchy.{Hierarchy}
use Rattle.compose_model.specs.Values.{IsCircuitOf}
use Rattle.compose_blocks.specs.declared.block_fault.BlockFault.{BlockFault}
use Rattle.compose_blocks.specs.declared.block_fault.BlockFault.TheVariants.{NoNet, HasLatch, NotBound, OutOfMemory}

module _ (design : List ModelValue) (model : ℕ) (words : List WordText) where
  -- the net of the model, flattened alone, which has no latch, with the words bound to it
  pub record IsBlockCircuit (circuit : BoundNet) : Type 0 where
    pub flat : Flattens design model (Ok circuit.net)
    pub latches : circuit.net.latches ≡ []
    pub bound : BindingOf circuit.net words [] (Ok circuit.binding)

  -- the model is a net with a latch
  pub record IsLatched : Type 0 where
    pub net : NetList
    pub flat : Flattens design model (Ok net)
    pub some : net.latches ≢ []

  -- the model is a net without latches, to which the words do not bind
  pub record IsNotBound : Type 0 where
    pub net : NetList
    pub flat : Flattens design model (Ok net)
    pub latches : net.latches ≡ []
    pub fault : BindFault
    pub refused : BindingOf net words [] (Err fault)

  -- why there is no circuit; out of memory is free
  abbrev pub IsBlockFault : BlockFault → Type 0
  IsBlockFault NoNet = (fault : FlatFault) × Flattens design model (Err fault)
  IsBlockFault HasLatch = IsLatched
  IsBlockFault NotBound = IsNotBound
  IsBlockFault OutOfMemory = Unit {0}

-- in any bases, over any product, the circuit of the net list is that of the model with these words
abbrev pub GivesCircuits : Hierarchy → ℕ → List WordText → BoundNet → Type 0
GivesCircuits h model words netlist = (k : ℕ) (mul : ℕ → ℕ → ℕ) (bases : List Basis) → IsCircuitOf k mul h model words (map elements_of bases) (circuit_in k mul netlist bases)
