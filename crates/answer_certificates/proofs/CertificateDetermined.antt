-- At most one circuit with a certificate comes of the files, and at most one reply of `verify` and of `upgrade`.
use Rattle.std.proofs.Common.{◌≡◌, ◌∙◌, ap, sym, ℕ, List, Result, Ok, Err}
use Rattle.lists.specs.laws.OptionLaws.{same_some}
use Rattle.outcome.proofs.DeterminedLemmas.{determined_bind, determined_exactly}
use Rattle.outcome.specs.Outcome.{Determined, Exactly}
use Rattle.net_words.specs.Binding.{BoundNet}
use Rattle.cert_check.specs.Certificate.{CertificateOf}
use Rattle.cert_check.specs.declared.fault.CertFault.{CertFault}
use Rattle.cert_check.proofs.DeterminedLemmas.{one_certificate}
use Rattle.cert_make.specs.CertText.{cert_text}
use Rattle.cert_make.specs.Upgrade.{UpgradeOf}
use Rattle.job_input.specs.Labelling.{labels_of}
use Rattle.job_input.specs.SettingSound.{IsSoundSetting}
use Rattle.job_input.specs.SettingValue.{SettingValue}
use Rattle.answer_certificates.specs.Certificates.{certificate_labels, certificate_fault_of}
use Rattle.answer_certificates.specs.Upgrade.{UpgradedOf, UpgradeReply}
use Rattle.answer_certificates.specs.Verify.{VerdictOf, VerifyReply, verify_reply}
use Rattle.answer_certificates.proofs.VerdictLemmas.{verdict_determined}

pub verify_determined : (setting : SettingValue) → IsSoundSetting setting → (bound : ℕ) (certified : BoundNet × List ℕ) → Determined (VerifyReply setting bound certified)
verify_determined setting sound bound certified =
    let labels = labels_of setting.k setting.signature.words in
    determined_bind (VerdictOf setting certified.0 bound certified.1) (λ verdict. Exactly (verify_reply labels verdict)) (verdict_determined setting certified.0 sound bound certified.1) (λ verdict. determined_exactly (verify_reply labels verdict))

module _ (setting : SettingValue) (circuit : BoundNet) (bytes : List ℕ) where
  one_upgrade : Determined (UpgradeOf setting.k circuit.net (certificate_labels setting circuit) bytes)
  one_upgrade =
      let labels = certificate_labels setting circuit in
      determined_bind (CertificateOf setting.k circuit.net labels bytes) (λ c. Exactly (cert_text labels c.claim c.pairs)) (one_certificate setting.k circuit.net labels bytes) (λ c. determined_exactly (cert_text labels c.claim c.pairs))

  same_ok : (a b : List ℕ) → ◌≡◌ {A = Result (List ℕ) CertFault} (Ok a) (Ok b) → a ≡ b
  same_ok a b e = cc

  same_err : (f g : CertFault) → ◌≡◌ {A = Result (List ℕ) CertFault} (Err f) (Err g) → f ≡ g
  same_err f g e = cc

  apart : (a : List ℕ) (f : CertFault) → ◌≡◌ {A = Result (List ℕ) CertFault} (Ok a) (Err f) → ⊥
  apart a f e = cc

  upgraded_determined : Determined (UpgradedOf setting circuit bytes)
  upgraded_determined (Ok a) (Ok b) h k = ap Ok (same_ok a b (one_upgrade (Ok a) (Ok b) h k))
  upgraded_determined (Ok a) (Err f) h (found, k, same) = absurd (apart a found (one_upgrade (Ok a) (Err found) h k))
  upgraded_determined (Err f) (Ok b) (found, h, same) k = absurd (apart b found (one_upgrade (Ok b) (Err found) k h))
  upgraded_determined (Err f) (Err g) (found, h, same) (found', k, same') =
      let equal : found ≡ found' = same_err found found' (one_upgrade (Err found) (Err found') h k) in
      ap Err (same_some f g (sym same ∙ (ap certificate_fault_of equal ∙ same')))

pub upgrade_determined : (setting : SettingValue) (certified : BoundNet × List ℕ) → Determined (UpgradeReply setting certified)
upgrade_determined setting certified =
    determined_bind (UpgradedOf setting certified.0 certified.1) (λ t. Exactly (record { status = 0; text = t })) (upgraded_determined setting certified.0 certified.1) (λ t. determined_exactly (record { status = 0; text = t }))
