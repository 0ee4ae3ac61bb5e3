-- The text in version 2 of what the text of a certificate says. Source: this project's own.
use Rattle.std.specs.Prelude.{ℕ, List}
use Rattle.outcome.specs.Outcome.{Outcome, ◌>>=◌, Exactly}
use Rattle.net_core.specs.NetList.{NetList}
use Rattle.poly_mixed.specs.Labels.{Labelling}
use Rattle.cert_check.specs.Certificate.{CertificateOf}
use Rattle.cert_check.specs.declared.fault.CertFault.{CertFault}
use Rattle.cert_make.specs.CertText.{cert_text}

-- the claim and the pairs of a certificate, written in version 2, or the first fault of its text
abbrev pub UpgradeOf : ℕ → NetList → Labelling → List ℕ → Outcome CertFault (List ℕ)
UpgradeOf k net labels bytes = do
  certificate ← CertificateOf k net labels bytes
  Exactly (cert_text labels certificate.claim certificate.pairs)
