-- At most one polynomial or fault comes of a well-formed circuit for a setting over a field.
use Rattle.std.proofs.Common.{◌≡◌, ℕ, ◌+◌, length}
use Rattle.outcome.specs.Outcome.{Determined, Within}
use Rattle.outcome.proofs.DeterminedLemmas.{determined_within}
use Rattle.gf_field.specs.Field.{HasNoZeroDivisors}
use Rattle.gf_field.specs.Ring.{IsRing}
use Rattle.net_core.specs.NetList.{nets}
use Rattle.net_core.specs.Sound.{IsSound}
use Rattle.net_words.specs.Binding.{BoundNet}
use Rattle.net_words.specs.Variables.{variables}
use Rattle.poly_mixed.specs.Polynomial.{Terms}
use Rattle.circuit_model.specs.OfBinding.{output_word, output_basis}
use Rattle.circuit_model.specs.WellFormed.{IsWellFormed}
use Rattle.stage_model.specs.Cut.{IsCut, BoundCut}
use Rattle.stage_model.specs.Mix.{IsMix}
use Rattle.stage_model.specs.WordListing.{word_listing}
use Rattle.stage_model.proofs.CutLemmas.{one_cut_of}
use Rattle.stage_model.proofs.CutListingLemmas.{cuts_ordered, net_cuts_sizes}
use Rattle.stage_model.proofs.ListingLemmas.{IsOrdered, HaveOneSize, both_ordered, both_sizes}
use Rattle.stage_model.proofs.MixLemmas.{one_mix}
use Rattle.stage_model.proofs.SizeLemmas.{same_terms}
use Rattle.stage_model.proofs.WordListingLemmas.{words_ordered, words_sizes}
use Rattle.job_words.specs.declared.fault.Fault.TheVariants as faults
use Rattle.job_words.specs.StageFault.{stage_text}
use Rattle.job_input.specs.Labelling.{labels_of}
use Rattle.job_input.specs.SettingValue.{SettingValue}
use Rattle.answer_core.specs.Staged.{either_text}
use Rattle.answer_core.specs.Abstraction.{bits_stages, IsLastCut, BitsOf, taken_circuit, abstract_stages, IsInWords, AbstractOf}
use Rattle.answer_core.proofs.StagedDetermined.{staged_determined}

module _ (setting : SettingValue) (circuit : BoundNet) (bound : ℕ) (ring : IsRing setting.k setting.product) (field : HasNoZeroDivisors setting.k setting.product) (net_sound : IsSound circuit.net) (well : IsWellFormed (taken_circuit setting circuit)) where
  pub cuts_one_order : IsOrdered (bits_stages setting circuit)
  cuts_one_order = cuts_ordered (length circuit.net.gates + 1) (BoundCut circuit (output_basis circuit.binding.words setting.bases))

  pub cuts_one_size : HaveOneSize setting.k setting.product (bits_stages setting circuit)
  cuts_one_size =
      net_cuts_sizes setting.k setting.product circuit.net (variables (nets circuit.net) circuit.binding.words) (output_word circuit.binding.words (output_basis circuit.binding.words setting.bases)) (length circuit.net.gates + 1)
      ring field net_sound

  one_last_cut : (ts us : Terms) → IsLastCut setting circuit ts → IsLastCut setting circuit us → ts ≡ us
  one_last_cut ts us a b =
      let order = variables (nets circuit.net) circuit.binding.words in
      let output = output_word circuit.binding.words (output_basis circuit.binding.words setting.bases) in
      same_terms setting.k setting.product ring field (IsCut circuit.net order output (length circuit.net.gates))
      (λ p x y at first other. one_cut_of circuit.net net_sound order output (length circuit.net.gates) p x y first other) ts us a b

  pub stages_ordered : IsOrdered (abstract_stages setting circuit)
  stages_ordered = both_ordered setting.k setting.product (bits_stages setting circuit) (word_listing (taken_circuit setting circuit)) cuts_one_order (words_ordered (taken_circuit setting circuit))

  pub stages_sizes : HaveOneSize setting.k setting.product (abstract_stages setting circuit)
  stages_sizes = both_sizes setting.k setting.product (bits_stages setting circuit) (word_listing (taken_circuit setting circuit)) cuts_one_size (words_sizes (taken_circuit setting circuit) well)

  one_in_words : (ts us : Terms) → IsInWords setting circuit ts → IsInWords setting circuit us → ts ≡ us
  one_in_words ts us a b =
      let whole = taken_circuit setting circuit in
      same_terms setting.k setting.product ring field (IsMix whole (length whole.words)) (λ p x y at first other. one_mix whole well (length whole.words) p x y first other) ts us a b

  pub cut_determined : Determined (Within faults.Stage (BitsOf setting circuit bound))
  cut_determined =
      determined_within faults.Stage (BitsOf setting circuit bound)
      (staged_determined setting.k setting.product (bits_stages setting circuit) (stage_text (labels_of setting.k setting.signature.words)) bound (IsLastCut setting circuit) one_last_cut cuts_one_order cuts_one_size)

  pub words_determined : Determined (Within faults.Stage (AbstractOf setting circuit bound))
  words_determined =
      determined_within faults.Stage (AbstractOf setting circuit bound)
      (staged_determined setting.k setting.product (abstract_stages setting circuit) (either_text (labels_of setting.k setting.signature.words)) bound (IsInWords setting circuit) one_in_words stages_ordered stages_sizes)
