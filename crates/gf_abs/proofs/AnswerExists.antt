-- To all words and held files there is an answer: a reply or a fault.
use Rattle.std.proofs.Common.{ℕ, List, Option, Ok}
use Rattle.outcome.specs.Outcome.{Within}
use Rattle.outcome.proofs.SomeLemmas.{some_bind, some_within}
use Rattle.job_io.specs.Shelf.{Files}
use Rattle.job_words.specs.Command.{Abstract, Action, Bits, Certify, Check, Compose, Eval, Iso, Job, Lift, Make, Over, Same, Table, Trial, Upgrade, Verify}
use Rattle.job_words.specs.Operands.{Word}
use Rattle.job_words.specs.declared.fault.Fault.TheVariants as faults
use Rattle.job_input.specs.SettingOf.{SettingOf, SettingWith, SignedValue}
use Rattle.job_input.specs.SettingValue.{SettingValue}
use Rattle.job_input.specs.SignedIn.{SignedIn}
use Rattle.job_laws.specs.HasOutcome.{HasOutcome}
use Rattle.job_laws.proofs.JobExists.{some_job}
use Rattle.job_laws.proofs.SettingExists.{some_setting, some_signed_in}
use Rattle.answer_laws.proofs.CertificatesExist.{some_certify, some_upgrade, some_verify}
use Rattle.answer_laws.proofs.CheckExists.{some_check}
use Rattle.answer_laws.proofs.ComposeExists.{some_compose}
use Rattle.answer_laws.proofs.IsoAnswersExist.{some_iso_answer}
use Rattle.answer_laws.proofs.MakeExists.{some_make}
use Rattle.answer_laws.proofs.PolynomialsExist.{some_abstract, some_bits}
use Rattle.answer_laws.proofs.SameExists.{some_same}
use Rattle.answer_laws.proofs.TablesExist.{some_eval, some_lift, some_table_answer}
use Rattle.answer_laws.proofs.TrialExists.{some_trial}
use Rattle.gf_abs.specs.Answer.{ActionAnswer, HaveAnswers, JobAnswer, SignedAnswer, Spelled}

module _ (held : Option Files) where
  some_action : (bytes : List ℕ) (setting : SettingValue) → SettingOf bytes (Ok setting) → (action : Action) → HasOutcome (ActionAnswer held setting action)
  some_action bytes setting is (Bits net terms cycles simple) = some_bits held bytes setting is net terms cycles simple
  some_action bytes setting is (Abstract net terms cycles simple) = some_abstract held bytes setting is net terms cycles simple
  some_action bytes setting is (Check net specification terms cycles simple) = some_check held bytes setting is net specification terms cycles simple
  some_action bytes setting is (Same net other terms cycles simple) = some_same held bytes setting is net other terms cycles simple
  some_action bytes setting is (Eval net values cycles) = some_eval held bytes setting is net values cycles
  some_action bytes setting is (Iso other) = some_iso_answer held bytes setting is other
  some_action bytes setting is (Lift table) = some_lift held bytes setting is table
  some_action bytes setting is (Table net cycles) = some_table_answer held bytes setting is net cycles
  some_action bytes setting is (Certify net terms cycles) = some_certify held bytes setting is net net terms cycles
  some_action bytes setting is (Verify net certificate terms cycles) = some_verify held bytes setting is net certificate terms cycles
  some_action bytes setting is (Upgrade net certificate cycles) = some_upgrade held bytes setting is net certificate 0 cycles
  some_action bytes setting is (Make kind) = some_make bytes setting is kind
  some_action bytes setting is (Compose net terms) = some_compose held bytes setting is net terms

  some_signed_answer : (signature : Word) (action : Action) (signed : SignedValue) → SignedIn held signature (Ok signed) → HasOutcome (SignedAnswer held signed action)
  some_signed_answer signature action signed (text, read, is_signed) =
      some_bind (Within faults.Signature (SettingWith signed)) (λ setting. ActionAnswer held setting action) (some_within faults.Signature (SettingWith signed) (some_setting signed))
      (λ setting is. some_action text setting (signed, is_signed, is) action)

  some_job_answer : (job : Job) → HasOutcome (JobAnswer held job)
  some_job_answer (Over signature action) = some_bind (SignedIn held signature) (λ signed. SignedAnswer held signed action) (some_signed_in held signature) (some_signed_answer signature action)
  some_job_answer (Trial number modulus terms) = some_trial number modulus terms

pub some_answer : HaveAnswers
some_answer words held = some_bind (Spelled words) (JobAnswer held) (some_job words) (λ job spelled. some_job_answer held job)
