-- Some reply or some fault comes of `bits` and of `abstract`, over the setting of a text.
use Rattle.std.proofs.Common.{ℕ, Bool, List, Option, Ok}
use Rattle.outcome.specs.Outcome.{Exactly, Within}
use Rattle.outcome.proofs.SomeLemmas.{some_bind, some_exactly, some_within}
use Rattle.job_io.specs.Shelf.{Files}
use Rattle.net_words.specs.Binding.{BoundNet}
use Rattle.job_words.specs.Operands.{Word}
use Rattle.job_words.specs.StageFault.{stage_text}
use Rattle.job_words.specs.declared.fault.Fault.TheVariants as faults
use Rattle.job_input.specs.Labelling.{labels_of}
use Rattle.job_input.specs.SettingOf.{SettingOf}
use Rattle.job_input.specs.SettingValue.{SettingValue}
use Rattle.answer_core.specs.Abstraction.{bits_stages, AbstractOf, BitsOf, IsLastCut}
use Rattle.answer_core.specs.Printed.{IsTaken}
use Rattle.answer_core.specs.Reply.{prints}
use Rattle.answer_core.specs.Simpler.{SimplerIn}
use Rattle.answer_polynomials.specs.Abstract.{AbstractAnswer, AbstractReply}
use Rattle.answer_polynomials.specs.Bits.{BitsAnswer, BitsReply}
use Rattle.answer_polynomials.proofs.EqualLemmas.{well}
use Rattle.job_laws.specs.HasOutcome.{HasOutcome}
use Rattle.answer_laws.proofs.CheckExists.{some_abstracted}
use Rattle.answer_laws.proofs.SomeCircuits.{bits_decided, some_last_cut}
use Rattle.answer_laws.proofs.SomeStaged.{some_staged}
use Rattle.answer_laws.proofs.TakenExists.{some_simpler_in, taken_bases, taken_in}

module _ (setting : SettingValue) (circuit : BoundNet) (taken : IsTaken setting circuit) (bound : ℕ) where
  in_bits : HasOutcome (BitsOf setting circuit bound)
  in_bits =
      let found = some_last_cut setting circuit bound (well setting circuit taken) (taken_bases setting circuit taken) in
      some_staged setting.k setting.product (bits_stages setting circuit) (stage_text (labels_of setting.k setting.signature.words)) bound (IsLastCut setting circuit) found.0 found.1
      (bits_decided setting circuit bound (well setting circuit taken) (taken_bases setting circuit taken))

  pub bits_reply : HasOutcome (BitsReply setting circuit bound)
  bits_reply = some_bind (Within faults.Stage (BitsOf setting circuit bound)) (λ ts. Exactly (prints setting ts)) (some_within faults.Stage (BitsOf setting circuit bound) in_bits) (λ ts may. some_exactly (prints setting ts))

  pub abstract_reply : HasOutcome (AbstractReply setting circuit bound)
  abstract_reply =
      some_bind (Within faults.Stage (AbstractOf setting circuit bound)) (λ ts. Exactly (prints setting ts))
      (some_within faults.Stage (AbstractOf setting circuit bound) (some_abstracted setting circuit bound (well setting circuit taken) (taken_bases setting circuit taken))) (λ ts may. some_exactly (prints setting ts))

module _ (held : Option Files) (bytes : List ℕ) (setting : SettingValue) (is_setting : SettingOf bytes (Ok setting)) (net : Word) (bound cycles : ℕ) (simple : Bool) where
  pub some_bits : HasOutcome (BitsAnswer held setting net bound cycles simple)
  some_bits =
      some_bind (SimplerIn held setting.signature net cycles simple) (λ circuit. BitsReply setting circuit bound) (some_simpler_in held bytes setting is_setting net cycles simple)
      (λ circuit of. bits_reply setting circuit (taken_in held bytes setting is_setting net cycles simple circuit of) bound)

  pub some_abstract : HasOutcome (AbstractAnswer held setting net bound cycles simple)
  some_abstract =
      some_bind (SimplerIn held setting.signature net cycles simple) (λ circuit. AbstractReply setting circuit bound) (some_simpler_in held bytes setting is_setting net cycles simple)
      (λ circuit of. abstract_reply setting circuit (taken_in held bytes setting is_setting net cycles simple circuit of) bound)
