-- The command `verify`: whether a certificate proves its claim. No stage is computed: the running sums of the certificate
-- stand in their place. Source: this project's own, docs/FORMATS.md.
use Rattle.std.specs.Prelude.{◌≡◌, ℕ, List, ◌++◌, codes, Option, Some, Ok, Err}
use Rattle.std.specs.Fmt.{decimal}
use Rattle.outcome.specs.Outcome.{Outcome, ◌>>=◌, Exactly}
use Rattle.job_io.specs.Shelf.{Files}
use Rattle.gf_basis.specs.declared.bases.Basis.{Basis}
use Rattle.net_words.specs.Binding.{BoundNet}
use Rattle.poly_mixed.specs.Labels.{Labelling}
use Rattle.cert_check.specs.Verdict.{Verdict, valid, invalid, Check}
use Rattle.cert_check.specs.declared.fault.CertFault.{CertFault}
use Rattle.job_words.specs.declared.fault.Fault.{Fault}
use Rattle.job_words.specs.Operands.{Word}
use Rattle.job_words.specs.declared.words.PairWords.{PairWords}
use Rattle.job_input.specs.Labelling.{labels_of}
use Rattle.job_input.specs.SettingValue.{SettingValue}
use Rattle.answer_certificates.specs.Certificates.{CertifiedIn, HaveDuals, certificate_labels, sum_fault}
use Rattle.answer_core.specs.Reply.{Reply, line_with}

-- the verdict on the bytes of a certificate, or the fault of the first line that shows one: a fault of its text, or a running
-- sum of more than `bound` terms after it
abbrev pub VerdictOf : SettingValue → BoundNet → ℕ → List ℕ → Outcome Fault Verdict
VerdictOf setting circuit bound bytes (Ok verdict) =
    (bases : List Basis) × HaveDuals setting circuit bases × Check setting.k setting.product circuit bases (certificate_labels setting circuit) bound bytes (Ok verdict)
VerdictOf setting circuit bound bytes (Err fault) =
    (bases : List Basis) × HaveDuals setting circuit bases × (found : CertFault) × Check setting.k setting.product circuit bases (certificate_labels setting circuit) bound bytes (Err found) × (sum_fault bound found ≡ Some fault)

-- how a verdict is answered: the claim that is proved, or how many terms are left of the last running sum
abbrev pub verify_reply : Labelling → Verdict → Reply
verify_reply labels (valid claim) = record { status = 0; text = codes "valid\n" ++ line_with labels claim }
verify_reply labels (invalid remaining) = record { status = 1; text = codes "invalid\nremaining " ++ (decimal remaining ++ codes " terms\n") }

-- its reply over a circuit and the bytes of a certificate
abbrev pub VerifyReply : SettingValue → ℕ → BoundNet × List ℕ → Outcome Fault Reply
VerifyReply setting bound certified = do
  verdict ← VerdictOf setting certified.0 bound certified.1
  Exactly (verify_reply (labels_of setting.k setting.signature.words) verdict)

-- its answer, after its signature was taken: its inputs are a netlist and a certificate
abbrev pub VerifyAnswer : Option Files → SettingValue → Word → Word → (terms cycles : ℕ) → Outcome Fault Reply
VerifyAnswer held setting net file terms cycles = do
  certified ← CertifiedIn held setting.signature net file cycles
  VerifyReply setting terms certified

-- so it is with the words of the command
abbrev pub VerifyAnswerTo : SettingValue → PairWords → Option Files → Outcome Fault Reply
VerifyAnswerTo setting words held = VerifyAnswer held setting words.net.now words.other.now words.terms words.cycles
