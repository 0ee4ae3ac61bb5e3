-- At most one polynomial or fault comes of the circuit of a netlist's cycles for a setting, or of a simpler one.
use Rattle.std.proofs.Common.{ℕ, Bool, Ok}
use Rattle.outcome.specs.Outcome.{Determined, Within}
use Rattle.net_words.specs.Binding.{BoundNet}
use Rattle.circuit_model.specs.WellFormed.{IsWellFormed}
use Rattle.stage_model.proofs.ListingLemmas.{IsOrdered, HaveOneSize}
use Rattle.job_words.specs.declared.fault.Fault.TheVariants as faults
use Rattle.job_input.specs.NetlistOf.{NetlistText}
use Rattle.job_input.specs.SettingSound.{IsSoundSetting}
use Rattle.job_input.specs.SettingValue.{SettingValue}
use Rattle.answer_core.specs.Abstraction.{bits_stages, BitsOf, taken_circuit, AbstractOf}
use Rattle.answer_core.specs.Simpler.{SimplerOfText}
use Rattle.answer_core.proofs.CircuitDetermined as circuits
use Rattle.answer_core.proofs.SimplerLemmas.{simpler_one_cycle, simpler_well}

module _ (setting : SettingValue) (circuit : BoundNet) (bound : ℕ) (sound : IsSoundSetting setting) (text : NetlistText) (cycles : ℕ) (simple : Bool) (is : SimplerOfText setting.signature text cycles simple (Ok circuit)) where
  well : IsWellFormed (taken_circuit setting circuit)
  well = simpler_well setting circuit sound text cycles simple is

  pub cuts_one_order : IsOrdered (bits_stages setting circuit)
  cuts_one_order = circuits.cuts_one_order setting circuit bound sound.ring sound.field (simpler_one_cycle setting circuit sound text cycles simple is).0 well

  pub cuts_one_size : HaveOneSize setting.k setting.product (bits_stages setting circuit)
  cuts_one_size = circuits.cuts_one_size setting circuit bound sound.ring sound.field (simpler_one_cycle setting circuit sound text cycles simple is).0 well

  pub cut_determined : Determined (Within faults.Stage (BitsOf setting circuit bound))
  cut_determined = circuits.cut_determined setting circuit bound sound.ring sound.field (simpler_one_cycle setting circuit sound text cycles simple is).0 well

  pub words_determined : Determined (Within faults.Stage (AbstractOf setting circuit bound))
  words_determined = circuits.words_determined setting circuit bound sound.ring sound.field (simpler_one_cycle setting circuit sound text cycles simple is).0 well
