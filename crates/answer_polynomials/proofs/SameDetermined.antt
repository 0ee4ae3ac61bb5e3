-- At most one reply or fault comes of `same` for a setting and two circuits.
use Rattle.std.proofs.Common.{◌≡◌, ℕ, Bool, Option, Ok}
use Rattle.outcome.proofs.DeterminedLemmas.{determined_bind, determined_exactly, determined_within}
use Rattle.outcome.specs.Outcome.{Determined, Exactly, Within}
use Rattle.net_words.specs.Binding.{BoundNet}
use Rattle.circuit_model.specs.Circuit.{Circuit}
use Rattle.circuit_model.specs.Differing.{Difference}
use Rattle.circuit_model.specs.Out.{IsOut}
use Rattle.circuit_model.specs.WellFormed.{IsWellFormed}
use Rattle.circuit_model.proofs.DifferingLemmas.{one_comparison}
use Rattle.circuit_model.proofs.OutLemmas.{one_out}
use Rattle.stage_model.proofs.ListingLemmas.{both_ordered, both_sizes}
use Rattle.job_words.specs.declared.fault.Fault.TheVariants as faults
use Rattle.job_input.specs.Labelling.{labels_of}
use Rattle.job_input.specs.NetlistOf.{NetlistText}
use Rattle.job_input.specs.SettingSound.{IsSoundSetting}
use Rattle.job_input.specs.SettingValue.{SettingValue}
use Rattle.answer_core.specs.Staged.{either_net_text}
use Rattle.answer_core.specs.Abstraction.{taken_circuit, bits_stages}
use Rattle.answer_polynomials.specs.Same.{same_stages, AreCompared, SameOf, SameReply, same_reply}
use Rattle.answer_core.specs.Simpler.{SimplerOfText}
use Rattle.answer_core.proofs.SimplerDetermined.{cuts_one_order, cuts_one_size}
use Rattle.answer_core.proofs.StagedDetermined.{staged_determined}
use Rattle.answer_core.proofs.SimplerLemmas.{simpler_well}

module _ (setting : SettingValue) (circuit other : BoundNet) (bound : ℕ) (sound : IsSoundSetting setting) (text : NetlistText) (cycles : ℕ) (simple : Bool) (is : SimplerOfText setting.signature text cycles simple (Ok circuit)) (text' : NetlistText) (cycles' : ℕ) (simple' : Bool) (is' : SimplerOfText setting.signature text' cycles' simple' (Ok other)) where
  one_of_outputs : (a b : Option Difference) → AreCompared setting circuit other a → AreCompared setting circuit other b → a ≡ b
  one_of_outputs =
      let c : Circuit = taken_circuit setting circuit in
      let d : Circuit = taken_circuit setting other in
      let well : IsWellFormed c = simpler_well setting circuit sound text cycles simple is in
      let more : IsWellFormed d = simpler_well setting other sound text' cycles' simple' is' in
      one_comparison c (IsOut c) (IsOut d) well (λ xs x y. one_out c xs x y well) (λ xs x y. one_out d xs x y more)

  pub same_determined : Determined (SameReply setting circuit other bound)
  same_determined =
      let first = bits_stages setting circuit in
      let second = bits_stages setting other in
      let labels = labels_of setting.k setting.signature.words in
      determined_bind (Within faults.Stage (SameOf setting circuit other bound)) (λ found. Exactly (same_reply labels found))
      (determined_within faults.Stage (SameOf setting circuit other bound) (staged_determined setting.k setting.product (same_stages setting circuit other) (either_net_text labels) bound (AreCompared setting circuit other) one_of_outputs
      (both_ordered setting.k setting.product first second (cuts_one_order setting circuit bound sound text cycles simple is) (cuts_one_order setting other bound sound text' cycles' simple' is'))
      (both_sizes setting.k setting.product first second (cuts_one_size setting circuit bound sound text cycles simple is) (cuts_one_size setting other bound sound text' cycles' simple' is'))))
      (λ found. determined_exactly (same_reply labels found))
