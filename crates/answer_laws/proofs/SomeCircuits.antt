-- The circuit of a netlist's cycles has a simpler one, where it is asked for; and a circuit that was taken has its stages decided.
use Rattle.std.proofs.Common.{◌≡◌, refl, inl, inr, ℕ, Bool, true, false, List, length, reverse, Option, Ok, arith}
use Rattle.outcome.proofs.SomeLemmas.{some_bind}
use Rattle.job_io.specs.Shelf.{Files}
use Rattle.net_core.specs.Sound.{IsSound}
use Rattle.net_words.specs.Binding.{BoundNet}
use Rattle.net_simplify.proofs.CircuitLemmas.{circuit_some}
use Rattle.poly_mixed.specs.Polynomial.{Terms}
use Rattle.circuit_model.specs.Circuit.{Circuit}
use Rattle.circuit_model.specs.OfBinding.{output_basis}
use Rattle.circuit_model.specs.WellFormed.{IsWellFormed}
use Rattle.stage_model.specs.CircuitListing.{circuit_cuts}
use Rattle.stage_model.specs.WordListing.{word_listing}
use Rattle.stage_model.proofs.BoundLemmas.{bound_over, bound_within}
use Rattle.stage_model.proofs.EliminationLemmas.{some_elimination}
use Rattle.stage_model.proofs.OutputInBitsLemmas.{same_stage}
use Rattle.stage_model.proofs.SearchLemmas.{both_decided, IsDecided}
use Rattle.stage_model.proofs.SomeOverLemmas.{circuit_cuts_decided, words_decided}
use Rattle.stage_model.proofs.SomeStageLemmas.{cut_polynomial, mix_polynomial}
use Rattle.job_words.specs.Operands.{Word}
use Rattle.job_words.specs.declared.fault.Fault.{Fault}
use Rattle.job_input.specs.CircuitOf.{UnrolledIn}
use Rattle.job_input.specs.NetlistOf.{by_ending, NetlistIn}
use Rattle.job_input.specs.SettingOf.{SettingOf}
use Rattle.job_input.specs.SettingSound.{IsSoundSetting}
use Rattle.job_input.specs.SettingValue.{SettingValue}
use Rattle.job_input.proofs.SettingSoundLemmas.{setting_sound}
use Rattle.answer_core.specs.Abstraction.{abstract_stages, bits_stages, taken_circuit, IsInWords, IsLastCut}
use Rattle.answer_core.specs.Simpler.{SimplerOf, SimplerUnrolledIn}
use Rattle.answer_core.proofs.SimplerLemmas.{simpler_long, simpler_well}
use Rattle.answer_core.proofs.TakenLemmas.{one_cycle}
use Rattle.job_laws.specs.HasOutcome.{HasOutcome}
use Rattle.job_laws.proofs.CircuitExists.{some_unrolled}

-- ---- circuits

-- of each sound circuit there is a simpler one
some_simpler : (simple : Bool) (circuit : BoundNet) → IsSound circuit.net → HasOutcome {F = Fault} (SimplerOf simple circuit)
some_simpler true circuit is_sound = let made = circuit_some (λ net is. let order = some_elimination net is in (reverse order.0, order.1)) circuit is_sound in (Ok made.0, made.1)
some_simpler false circuit is_sound = (Ok circuit, refl)

module _ (held : Option Files) (bytes : List ℕ) (setting : SettingValue) (is_setting : SettingOf bytes (Ok setting)) (net : Word) (cycles : ℕ) where
  abbrev sound : IsSoundSetting setting
  sound = setting_sound bytes setting is_setting

  module _ (netlist : BoundNet) (netlist_in : NetlistIn held setting.signature net (Ok netlist)) (simple : Bool) where
    circuit_sound : (circuit : BoundNet) → UnrolledIn net netlist cycles (Ok circuit) → IsSound circuit.net
    circuit_sound circuit of = (one_cycle setting circuit sound (by_ending net netlist_in.0) cycles (netlist, netlist_in.2, of)).0

    pub simpler_of : (circuit : BoundNet) → UnrolledIn net netlist cycles (Ok circuit) → HasOutcome {F = Fault} (SimplerOf simple circuit)
    simpler_of circuit of = some_simpler simple circuit (circuit_sound circuit of)

    pub some_simpler_unrolled : HasOutcome (SimplerUnrolledIn net netlist cycles simple)
    some_simpler_unrolled = some_bind (UnrolledIn net netlist cycles) (λ circuit. SimplerOf simple circuit) (some_unrolled net netlist cycles) simpler_of

    module _ (circuit : BoundNet) (of : SimplerUnrolledIn net netlist cycles simple (Ok circuit)) where
      pub taken_well : IsWellFormed (taken_circuit setting circuit)
      taken_well = simpler_well setting circuit sound (by_ending net netlist_in.0) cycles simple (of.0, (netlist, netlist_in.2, of.1), of.2)

      pub taken_long : length setting.bases ≡ length circuit.binding.words
      taken_long = simpler_long setting circuit sound (by_ending net netlist_in.0) cycles simple (of.0, (netlist, netlist_in.2, of.1), of.2)

-- ---- stages

module _ (setting : SettingValue) (circuit : BoundNet) (bound : ℕ) (well : IsWellFormed (taken_circuit setting circuit)) (long : length setting.bases ≡ length circuit.binding.words) where
  abbrev whole : Circuit
  whole = taken_circuit setting circuit

  abbrev basis : List ℕ
  basis = output_basis circuit.binding.words setting.bases

  from_cuts : IsDecided setting.k setting.product (circuit_cuts whole) bound → IsDecided setting.k setting.product (bits_stages setting circuit) bound
  from_cuts (inl all) = inl ((bound_within setting.k setting.product circuit setting.bases basis bound long refl).1 all)
  from_cuts (inr (name, n, over)) = inr (name, n, (bound_over setting.k setting.product circuit setting.bases basis bound name n long refl).1 over)

  pub bits_decided : IsDecided setting.k setting.product (bits_stages setting circuit) bound
  bits_decided = from_cuts (circuit_cuts_decided whole well bound)

  pub some_last_cut : (ts : Terms) × IsLastCut setting circuit ts
  some_last_cut =
      let found = cut_polynomial whole well (length circuit.net.gates) in
      (found.0, (same_stage setting.k setting.product circuit setting.bases basis (length circuit.net.gates) found.0 long refl).1 found.1)

  pub abstract_decided : IsDecided setting.k setting.product (abstract_stages setting circuit) bound
  abstract_decided = both_decided setting.k setting.product (bits_stages setting circuit) (word_listing whole) bound bits_decided (words_decided whole well bound)

pub some_in_words : (setting : SettingValue) (circuit : BoundNet) → IsWellFormed (taken_circuit setting circuit) → (ts : Terms) × IsInWords setting circuit ts
some_in_words setting circuit well = mix_polynomial (taken_circuit setting circuit) well (length (taken_circuit setting circuit).words) (omega arith)
