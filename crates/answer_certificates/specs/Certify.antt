-- The command `certify`: the output word's polynomial in the input words, with the steps that lead to it.
-- Source: this project's own, docs/FORMATS.md.
use Rattle.std.specs.Prelude.{◌≡◌, ℕ, List, Option}
use Rattle.outcome.specs.Outcome.{Outcome, ◌>>=◌, Exactly, Within}
use Rattle.job_io.specs.Shelf.{Files}
use Rattle.gf_basis.specs.declared.bases.Basis.{Basis}
use Rattle.net_words.specs.Binding.{BoundNet}
use Rattle.poly_mixed.specs.Polynomial.{Terms}
use Rattle.poly_mixed.specs.Steps.{Step}
use Rattle.cert_make.specs.CertText.{cert_text}
use Rattle.cert_make.specs.Recorded.{IsCertificateOf}
use Rattle.job_words.specs.declared.fault.Fault.{Fault}
use Rattle.job_words.specs.declared.fault.Fault.TheVariants as faults
use Rattle.job_words.specs.declared.stage_fault.StageFault.{StageFault}
use Rattle.job_words.specs.Operands.{Word}
use Rattle.job_words.specs.declared.words.NetWords.{NetWords}
use Rattle.job_input.specs.CircuitOf.{CircuitIn}
use Rattle.job_input.specs.SettingValue.{SettingValue}
use Rattle.answer_certificates.specs.Certificates.{HaveDuals, certificate_labels}
use Rattle.answer_core.specs.Reply.{Reply}
use Rattle.answer_core.specs.Staged.{Staged, either_text}
use Rattle.answer_core.specs.Abstraction.{abstract_stages}

-- the text of the circuit's certificate: of its polynomial in words, and of the pairs that the elimination of its gates and
-- then the replacement of its words record
pub record IsCertificateText (setting : SettingValue) (circuit : BoundNet) (text : List ℕ) : Type 0 where
  pub bases : List Basis
  pub duals : HaveDuals setting circuit bases
  pub claim : Terms
  pub pairs : List Step
  pub recorded : IsCertificateOf setting.k setting.product circuit bases claim pairs
  pub written : text ≡ cert_text (certificate_labels setting circuit) claim pairs

-- this text, where no stage of `abstract` has more than `bound` terms
abbrev pub CertifyOf : SettingValue → BoundNet → ℕ → Outcome StageFault (List ℕ)
CertifyOf setting circuit bound = Staged setting.k setting.product (abstract_stages setting circuit) (either_text (certificate_labels setting circuit)) bound (IsCertificateText setting circuit)

-- its reply over a circuit
abbrev pub CertifyReply : SettingValue → BoundNet → ℕ → Outcome Fault Reply
CertifyReply setting circuit bound = do
  text ← Within faults.Stage (CertifyOf setting circuit bound)
  Exactly (record { status = 0; text = text })

-- its answer, after its signature was taken: its input is a netlist
abbrev pub CertifyAnswer : Option Files → SettingValue → Word → (terms cycles : ℕ) → Outcome Fault Reply
CertifyAnswer held setting net terms cycles = do
  circuit ← CircuitIn held setting.signature net cycles
  CertifyReply setting circuit terms

-- so it is with the words of the command
abbrev pub CertifyAnswerTo : SettingValue → NetWords → Option Files → Outcome Fault Reply
CertifyAnswerTo setting words held = CertifyAnswer held setting words.net.now words.terms words.cycles
