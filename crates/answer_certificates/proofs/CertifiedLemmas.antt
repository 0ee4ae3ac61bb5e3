-- What is known of a circuit beside a certificate, and the stops of a certificate.
use Rattle.std.proofs.Common.{◌≡◌, ℕ, List, Some, Result, Ok, Err}
use Rattle.std.specs.Prelude.{IfOk}
use Rattle.outcome.specs.Outcome.{Outcome, MayRefuse}
use Rattle.gf_basis.specs.declared.bases.Basis.{Basis}
use Rattle.net_words.specs.Binding.{BoundNet}
use Rattle.cert_check.specs.Fault.{refusal}
use Rattle.cert_check.specs.Verdict.{Check, verdict_of}
use Rattle.cert_check.specs.declared.fault.CertFault.{CertFault}
use Rattle.cert_check.specs.declared.fault.CertFault.TheVariants as text
use Rattle.cert_make.specs.Upgrade.{UpgradeOf}
use Rattle.job_words.specs.Stop.{GivesBy}
use Rattle.job_words.specs.declared.fault.Fault.{Fault}
use Rattle.job_words.specs.declared.stop.Stop.{Stop}
use Rattle.job_input.specs.Setting.{IsReady, IsTakenFor}
use Rattle.job_input.specs.declared.setting.Setting.{Setting}
use Rattle.job_input.specs.SettingValue.{SettingValue}
use Rattle.answer_certificates.specs.Certificates.{HaveDuals, certificate_labels, sum_fault, certificate_fault_of}
use Rattle.answer_certificates.specs.Upgrade.{UpgradedOf}
use Rattle.answer_certificates.specs.Verify.{VerdictOf}
use Rattle.answer_certificates.specs.declared.certificates.Certified.{Certified}
use Rattle.answer_core.specs.StageStop.{IsStopOf}
use Rattle.answer_core.proofs.RefusalLemmas.{stopped, IsNoMiss}

-- what is taken for a setting as a netlist is still taken for it as a circuit
pub still_taken : (setting : Setting) (netlist : BoundNet) (result : Result Certified Stop) → IfOk result (λ certified. (k : ℕ) (other : Setting) → IsTakenFor k other netlist → IsTakenFor k other certified.circuit)
    → ((k : ℕ) (product : ℕ → ℕ → ℕ) → IsReady k product setting → IsTakenFor k setting netlist) → IfOk result (λ certified. (k : ℕ) (product : ℕ → ℕ → ℕ) → IsReady k product setting → IsTakenFor k setting certified.circuit)
still_taken setting netlist (Ok certified) keeps taken = λ k product ready. keeps k setting (taken k product ready)
still_taken setting netlist (Err stop) keeps taken = tt

-- ---- faults of certificates

no_text_miss : (found : CertFault) → IsNoMiss (certificate_fault_of found)
no_text_miss (text.Syntax line) = λ miss. miss
no_text_miss (text.NoSuchNet line) = λ miss. miss
no_text_miss (text.NoSuchBit line) = λ miss. miss
no_text_miss (text.NotDriven line) = λ miss. miss
no_text_miss (text.NoSuchLet line) = λ miss. miss
no_text_miss text.NoEnd = λ miss. miss
no_text_miss (text.TooManyTerms line terms) = tt
no_text_miss text.OutOfMemory = tt

no_sum_miss : (bound : ℕ) (found : CertFault) → IsNoMiss (sum_fault bound found)
no_sum_miss bound (text.Syntax line) = λ miss. miss
no_sum_miss bound (text.NoSuchNet line) = λ miss. miss
no_sum_miss bound (text.NoSuchBit line) = λ miss. miss
no_sum_miss bound (text.NotDriven line) = λ miss. miss
no_sum_miss bound (text.NoSuchLet line) = λ miss. miss
no_sum_miss bound text.NoEnd = λ miss. miss
no_sum_miss bound (text.TooManyTerms line terms) = λ miss. miss
no_sum_miss bound text.OutOfMemory = tt

-- a fault with a refusal is one that may come
module _ {A : Type 0} (outcome : Outcome CertFault A) (f : Fault) where
  text_comes : (found : CertFault) → MayRefuse outcome (refusal found) → certificate_fault_of found ≡ Some f → outcome (Err found)
  text_comes (text.Syntax line) may same = may
  text_comes (text.NoSuchNet line) may same = may
  text_comes (text.NoSuchBit line) may same = may
  text_comes (text.NotDriven line) may same = may
  text_comes (text.NoSuchLet line) may same = may
  text_comes text.NoEnd may same = may
  text_comes (text.TooManyTerms line terms) may same = absurd (cc)
  text_comes text.OutOfMemory may same = absurd (cc)

  sum_comes : (bound : ℕ) (found : CertFault) → MayRefuse outcome (refusal found) → sum_fault bound found ≡ Some f → outcome (Err found)
  sum_comes bound (text.Syntax line) may same = may
  sum_comes bound (text.NoSuchNet line) may same = may
  sum_comes bound (text.NoSuchBit line) may same = may
  sum_comes bound (text.NotDriven line) may same = may
  sum_comes bound (text.NoSuchLet line) may same = may
  sum_comes bound text.NoEnd may same = may
  sum_comes bound (text.TooManyTerms line terms) may same = may
  sum_comes bound text.OutOfMemory may same = absurd (cc)

-- ---- the stops of the commands

-- of `verify`, over any bases of the setting with their duals
pub verdict_stopped : (setting : SettingValue) (circuit : BoundNet) (bound : ℕ) (bytes : List ℕ) (bases : List Basis) (found : CertFault) (stop : Stop) → HaveDuals setting circuit bases
    → MayRefuse (Check setting.k setting.product circuit bases (certificate_labels setting circuit) bound bytes) (refusal found) → IsStopOf (sum_fault bound found) stop → GivesBy verdict_of (Err stop) (VerdictOf setting circuit bound bytes) ⊥ ⊥
verdict_stopped setting circuit bound bytes bases found stop duals may is =
    stopped verdict_of (VerdictOf setting circuit bound bytes) (sum_fault bound found) stop (no_sum_miss bound found)
    (λ f same. (bases, duals, found, sum_comes (Check setting.k setting.product circuit bases (certificate_labels setting circuit) bound bytes) f bound found may same, same)) is

-- of `upgrade`
pub upgrade_stopped : {X : Type 0} (view : X → List ℕ) (setting : SettingValue) (circuit : BoundNet) (bytes : List ℕ) (found : CertFault) (stop : Stop)
    → MayRefuse (UpgradeOf setting.k circuit.net (certificate_labels setting circuit) bytes) (refusal found) → IsStopOf (certificate_fault_of found) stop → GivesBy view (Err stop) (UpgradedOf setting circuit bytes) ⊥ ⊥
upgrade_stopped view setting circuit bytes found stop may is =
    stopped view (UpgradedOf setting circuit bytes) (certificate_fault_of found) stop (no_text_miss found)
    (λ f same. (found, text_comes (UpgradeOf setting.k circuit.net (certificate_labels setting circuit) bytes) f found may same, same)) is
