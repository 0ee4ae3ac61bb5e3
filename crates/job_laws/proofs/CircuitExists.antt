-- Netlists have circuits of their cycles or faults, and files have hierarchies or faults.
use Rattle.std.proofs.Common.{refl, inl, inr, ℕ, List, length, Option, Ok, Err}
use Rattle.std.proofs.lemmas.Bool.{cases_lt}
use Rattle.lists.specs.Limits.{most_nets}
use Rattle.outcome.specs.Outcome.{◌>>=◌, Exactly, Within}
use Rattle.outcome.proofs.SomeLemmas.{some_bind, some_exactly, some_within}
use Rattle.job_io.specs.Shelf.{Files}
use Rattle.net_core.specs.NetList.{nets}
use Rattle.net_words.specs.Binding.{BoundNet}
use Rattle.net_signature.specs.Signature.{SignatureValue}
use Rattle.net_blif.specs.Design.{ModelValue}
use Rattle.net_blif.specs.Models.{BlifDesign}
use Rattle.net_flat.specs.Flat.{Flattens}
use Rattle.job_words.specs.Operands.{Word}
use Rattle.job_words.specs.declared.fault.Fault.TheVariants.{File, Netlist}
use Rattle.job_words.specs.declared.netlist_fault.NetlistFault.TheVariants.{TooManyNets, TooManyGates}
use Rattle.job_input.specs.CircuitOf.{all_cycles, CircuitIn, CircuitOf, CircuitOfText, UnrolledIn}
use Rattle.job_input.specs.File.{Read}
use Rattle.job_input.specs.HierarchyIn.{HierarchyIn, HierarchyOf, TopBinds}
use Rattle.job_input.specs.NetlistOf.{of_model, of_text, BoundNetOf, NetlistIn, NetlistText, WordsBound}
use Rattle.reader_laws.specs.SoundModels.{AreSoundModels}
use Rattle.reader_laws.proofs.BlifExists.{some_design}
use Rattle.reader_laws.proofs.BlifSound.{sound_design}
use Rattle.reader_laws.proofs.FlatExists.{some_flat}
use Rattle.reader_laws.proofs.NetlistExists.{some_bound, some_netlist, some_netlist_in, some_read}
use Rattle.job_laws.specs.HasOutcome.{HasOutcome}

-- ---- circuits

-- nets and gates are counted
pub some_cycles : (netlist : BoundNet) (cycles : ℕ) → HasOutcome (CircuitOf netlist cycles)
some_cycles netlist cycles =
    elim (cases_lt most_nets (nets (all_cycles netlist cycles).net)) [
      | inl many ↦ (Err TooManyNets, inl (refl, many))
      | inr few ↦ elim (cases_lt most_nets (length (all_cycles netlist cycles).net.gates)) [ inl many ↦ (Err TooManyGates, inr (refl, few, many)) | inr small ↦ (Ok (all_cycles netlist cycles), (refl, few, small)) ]
    ]

pub some_unrolled : (file : Word) (netlist : BoundNet) (cycles : ℕ) → HasOutcome (UnrolledIn file netlist cycles)
some_unrolled file netlist cycles = some_within (Netlist file) (CircuitOf netlist cycles) (some_cycles netlist cycles)

pub some_circuit_of_text : (signature : SignatureValue) (text : NetlistText) (cycles : ℕ) → HasOutcome (CircuitOfText signature text cycles)
some_circuit_of_text signature text cycles = some_bind (BoundNetOf signature text) (λ netlist. CircuitOf netlist cycles) (some_netlist signature text) (λ netlist is. some_cycles netlist cycles)

pub some_circuit_in : (held : Option Files) (signature : SignatureValue) (file : Word) (cycles : ℕ) → HasOutcome (CircuitIn held signature file cycles)
some_circuit_in held signature file cycles = some_bind (NetlistIn held signature file) (λ netlist. UnrolledIn file netlist cycles) (some_netlist_in held signature file) (λ netlist is. some_unrolled file netlist cycles)

-- ---- hierarchies

module _ (signature : SignatureValue) where
  some_top : (design : List ModelValue) → AreSoundModels design → HasOutcome (TopBinds signature design)
  some_top design sound =
      some_bind (Within of_model (Flattens design 0)) (λ net. WordsBound signature.words signature.feeds net >>= (λ bound. Exactly tt)) (some_within of_model (Flattens design 0) (some_flat design 0 sound)) (λ net is.
      some_bind (WordsBound signature.words signature.feeds net) (λ bound. Exactly tt) (some_bound signature.words signature.feeds net) (λ bound may. some_exactly tt))

  some_hierarchy_of : (text : List ℕ) → HasOutcome (HierarchyOf signature text)
  some_hierarchy_of text =
      some_bind (Within of_text (BlifDesign text)) (λ design. TopBinds signature design >>= (λ binds. Exactly design)) (some_within of_text (BlifDesign text) (some_design text)) (λ design read.
      some_bind (TopBinds signature design) (λ binds. Exactly design) (some_top design (sound_design text design read)) (λ binds may. some_exactly design))

pub some_hierarchy : (held : Option Files) (signature : SignatureValue) (file : Word) → HasOutcome (HierarchyIn held signature file)
some_hierarchy held signature file =
    some_bind (Within File (Read held file)) (λ text. Within (Netlist file) (HierarchyOf signature text)) (some_within File (Read held file) (some_read held file)) (λ text read. some_within (Netlist file) (HierarchyOf signature text) (some_hierarchy_of signature text))
