-- At most one reply or fault comes of `check` for a setting, a circuit and a specification.
use Rattle.std.proofs.Common.{◌≡◌, ◌∙◌, sym, ℕ, Bool, List, Option, Ok}
use Rattle.outcome.proofs.DeterminedLemmas.{determined_bind, determined_exactly, determined_within}
use Rattle.outcome.specs.Outcome.{Determined, Exactly, Within}
use Rattle.net_words.specs.Binding.{BoundNet}
use Rattle.circuit_model.specs.Circuit.{Circuit}
use Rattle.circuit_model.specs.Differing.{Difference}
use Rattle.circuit_model.specs.Out.{IsOut}
use Rattle.circuit_model.specs.WellFormed.{IsWellFormed}
use Rattle.circuit_model.proofs.DifferingLemmas.{one_comparison}
use Rattle.circuit_model.proofs.OutLemmas.{one_out}
use Rattle.spec_expand.specs.SpecListing.{spec_listing}
use Rattle.spec_expand.specs.Specification.{SpecTerms}
use Rattle.job_words.specs.declared.fault.Fault.TheVariants as faults
use Rattle.job_words.specs.StageFault.{stage_text}
use Rattle.job_input.specs.Labelling.{labels_of}
use Rattle.job_input.specs.NetlistOf.{NetlistText}
use Rattle.job_input.specs.SettingSound.{IsSoundSetting}
use Rattle.job_input.specs.SettingValue.{SettingValue}
use Rattle.answer_core.specs.Reply.{polynomial_line}
use Rattle.answer_core.specs.Abstraction.{taken_circuit, AbstractOf}
use Rattle.answer_core.specs.Judged.{IsSpecified, IsJudged, JudgedOf}
use Rattle.answer_polynomials.specs.Check.{WordsLine, CheckBeside, CheckReply, check_reply}
use Rattle.answer_core.specs.Simpler.{SimplerOfText}
use Rattle.answer_core.proofs.SimplerDetermined.{words_determined}
use Rattle.answer_core.proofs.SpecStageLemmas.{spec_ordered, spec_sizes}
use Rattle.answer_core.proofs.StagedDetermined.{staged_determined}
use Rattle.answer_core.proofs.SimplerLemmas.{simpler_well}

module _ (setting : SettingValue) (circuit : BoundNet) (spec : SpecTerms) (bound : ℕ) (sound : IsSoundSetting setting) (text : NetlistText) (cycles : ℕ) (simple : Bool) (is : SimplerOfText setting.signature text cycles simple (Ok circuit)) where
  one_judged : (a b : Option Difference) → IsJudged setting circuit spec a → IsJudged setting circuit spec b → a ≡ b
  one_judged =
      let c : Circuit = taken_circuit setting circuit in
      let well : IsWellFormed c = simpler_well setting circuit sound text cycles simple is in
      one_comparison c (IsOut c) (IsSpecified setting (taken_circuit setting circuit) spec) well (λ xs x y. one_out c xs x y well) (λ xs x y first second. sym first.value ∙ second.value)

  beside_determined : (line : List ℕ) → Determined (CheckBeside setting circuit spec bound line)
  beside_determined line =
      let c : Circuit = taken_circuit setting circuit in
      let labels = labels_of setting.k setting.signature.words in
      determined_bind (Within faults.Stage (JudgedOf setting circuit spec bound)) (λ found. Exactly (check_reply labels line found))
      (determined_within faults.Stage (JudgedOf setting circuit spec bound) (staged_determined setting.k setting.product (spec_listing c spec) (stage_text labels) bound (IsJudged setting circuit spec) one_judged (spec_ordered c spec) (spec_sizes c spec (simpler_well setting circuit sound text cycles simple is))))
      (λ found. determined_exactly (check_reply labels line found))

  line_determined : Determined (WordsLine setting circuit bound)
  line_determined = determined_bind (Within faults.Stage (AbstractOf setting circuit bound)) (λ ts. Exactly (polynomial_line setting ts)) (words_determined setting circuit bound sound text cycles simple is) (λ ts. determined_exactly (polynomial_line setting ts))

  pub check_determined : Determined (CheckReply setting circuit spec bound)
  check_determined = determined_bind (WordsLine setting circuit bound) (λ line. CheckBeside setting circuit spec bound line) line_determined (λ line. beside_determined line)
