-- What is told of a refusal, as the text of an answer.
use Rattle.std.proofs.Common.{◌≡◌, ◌⊎◌, inl, inr, subst, ℕ, Err}
use Rattle.outcome.specs.Outcome.{Outcome}
use Rattle.job_words.specs.Fault.{fault_line, fault_status}
use Rattle.job_words.specs.Stop.{GivesBy}
use Rattle.job_words.specs.declared.fault.Fault.{Fault}
use Rattle.job_words.specs.declared.stop.Stop.{Stop}
use Rattle.job_words.specs.declared.stop.Stop.TheVariants.{Refused, Outside}
use Rattle.answer_core.specs.declared.output.Output.{Output}
use Rattle.answer_core.specs.Reply.{Reply, reply_of}
use Rattle.gf_abs.specs.Written.{IsText}

module _ (answer : Outcome Fault Reply) (missed failed : Type 0) (stop : Stop) (gives : GivesBy reply_of (Err stop) answer missed failed) where
  pub told_text : (output : Output) → (fault : Fault) × (stop ≡ Refused fault) × (output.text.items ≡ fault_line fault) × (output.status ≡ fault_status fault) → IsText answer missed output.status output.text.items
  told_text output (fault, same, text, status) =
      let P : Stop → Type 0 = λ s. GivesBy reply_of (Err s) answer missed failed in
      let gave : P (Refused fault) = subst P same gives in
      inr (fault, gave.0, gave.1, text, status)

  pub told_stop : (status : ℕ) → ((status ≡ 4) × (stop ≡ Outside)) ⊎ (status ≡ 5) → ((status ≡ 4) × failed) ⊎ (status ≡ 5)
  told_stop status (inl (four, same)) =
      let P : Stop → Type 0 = λ s. GivesBy reply_of (Err s) answer missed failed in
      inl (four, subst P same gives)
  told_stop status (inr five) = inr five
