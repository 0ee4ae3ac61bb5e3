-- The stages of the circuit of a netlist's cycles stand in one order, each with one size.
use Rattle.std.proofs.Common.{ℕ, Ok}
use Rattle.net_words.specs.Binding.{BoundNet}
use Rattle.circuit_model.specs.WellFormed.{IsWellFormed}
use Rattle.stage_model.proofs.ListingLemmas.{IsOrdered, HaveOneSize}
use Rattle.job_input.specs.CircuitOf.{CircuitOfText}
use Rattle.job_input.specs.NetlistOf.{NetlistText}
use Rattle.job_input.specs.SettingSound.{IsSoundSetting}
use Rattle.job_input.specs.SettingValue.{SettingValue}
use Rattle.answer_core.specs.Abstraction.{taken_circuit, abstract_stages}
use Rattle.answer_core.proofs.CircuitDetermined as circuits
use Rattle.answer_core.proofs.TakenLemmas.{circuit_sound, circuit_well}

module _ (setting : SettingValue) (circuit : BoundNet) (bound : ℕ) (sound : IsSoundSetting setting) (text : NetlistText) (cycles : ℕ) (is : CircuitOfText setting.signature text cycles (Ok circuit)) where
  well : IsWellFormed (taken_circuit setting circuit)
  well = circuit_well setting circuit sound text cycles is

  pub stages_ordered : IsOrdered (abstract_stages setting circuit)
  stages_ordered = circuits.stages_ordered setting circuit bound sound.ring sound.field (circuit_sound setting circuit sound text cycles is) well

  pub stages_sizes : HaveOneSize setting.k setting.product (abstract_stages setting circuit)
  stages_sizes = circuits.stages_sizes setting circuit bound sound.ring sound.field (circuit_sound setting circuit sound text cycles is) well
