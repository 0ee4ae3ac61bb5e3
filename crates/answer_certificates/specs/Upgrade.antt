-- The command `upgrade`: a certificate in the newest version. Source: this project's own, docs/FORMATS.md.
use Rattle.std.specs.Prelude.{◌≡◌, ℕ, List, Option, Some, Ok, Err}
use Rattle.outcome.specs.Outcome.{Outcome, ◌>>=◌, Exactly}
use Rattle.job_io.specs.Shelf.{Files}
use Rattle.net_words.specs.Binding.{BoundNet}
use Rattle.cert_check.specs.declared.fault.CertFault.{CertFault}
use Rattle.cert_make.specs.Upgrade.{UpgradeOf}
use Rattle.job_words.specs.declared.fault.Fault.{Fault}
use Rattle.job_words.specs.Operands.{Word}
use Rattle.job_words.specs.declared.words.CyclePairWords.{CyclePairWords}
use Rattle.job_input.specs.SettingValue.{SettingValue}
use Rattle.answer_certificates.specs.Certificates.{CertifiedIn, certificate_labels, certificate_fault_of}
use Rattle.answer_core.specs.Reply.{Reply}

-- the text of the claim and the pairs that the bytes of a certificate say, or the fault of their first line that has one
abbrev pub UpgradedOf : SettingValue → BoundNet → List ℕ → Outcome Fault (List ℕ)
UpgradedOf setting circuit bytes (Ok text) = UpgradeOf setting.k circuit.net (certificate_labels setting circuit) bytes (Ok text)
UpgradedOf setting circuit bytes (Err fault) = (found : CertFault) × UpgradeOf setting.k circuit.net (certificate_labels setting circuit) bytes (Err found) × (certificate_fault_of found ≡ Some fault)

-- its reply over a circuit and the bytes of a certificate
abbrev pub UpgradeReply : SettingValue → BoundNet × List ℕ → Outcome Fault Reply
UpgradeReply setting certified = do
  text ← UpgradedOf setting certified.0 certified.1
  Exactly (record { status = 0; text = text })

-- its answer, after its signature was taken: its inputs are a netlist and a certificate
abbrev pub UpgradeAnswer : Option Files → SettingValue → Word → Word → (cycles : ℕ) → Outcome Fault Reply
UpgradeAnswer held setting net file cycles = do
  certified ← CertifiedIn held setting.signature net file cycles
  UpgradeReply setting certified

-- so it is with the words of the command
abbrev pub UpgradeAnswerTo : SettingValue → CyclePairWords → Option Files → Outcome Fault Reply
UpgradeAnswerTo setting words held = UpgradeAnswer held setting words.net.now words.other.now words.cycles
