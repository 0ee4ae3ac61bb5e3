-- A circuit has one certificate, and at most one reply comes of `certify`.
use Rattle.std.proofs.Common.{◌≡◌, ◌∙◌, sym, subst, ℕ, List, length, map, Ok}
use Rattle.outcome.proofs.DeterminedLemmas.{determined_bind, determined_exactly, determined_within}
use Rattle.outcome.specs.Outcome.{Determined, Exactly, Within}
use Rattle.net_core.specs.NetList.{nets}
use Rattle.net_words.specs.Binding.{BoundNet}
use Rattle.net_words.specs.Variables.{variables}
use Rattle.gf_basis.specs.BasisParts.{elements_of}
use Rattle.gf_basis.specs.declared.bases.Basis.{Basis}
use Rattle.poly_mixed.specs.Polynomial.{Terms}
use Rattle.poly_mixed.specs.Steps.{Step}
use Rattle.circuit_model.specs.OfBinding.{circuit_with, output_word, output_basis}
use Rattle.stage_model.specs.CutSteps.{AreCutSteps}
use Rattle.stage_model.specs.Mix.{IsMix}
use Rattle.stage_model.specs.Stage.{IsOfStage}
use Rattle.stage_model.specs.WordSteps.{AreWordSteps}
use Rattle.cert_make.specs.CertText.{cert_text}
use Rattle.cert_make.specs.Recorded.{IsCertificateOf}
use Rattle.cert_laws.proofs.OneCertificateLemmas.{is_only}
use Rattle.job_words.specs.declared.fault.Fault.TheVariants as faults
use Rattle.job_input.specs.CircuitOf.{CircuitOfText}
use Rattle.job_input.specs.NetlistOf.{NetlistText}
use Rattle.job_input.specs.SettingSound.{IsSoundSetting}
use Rattle.job_input.specs.SettingValue.{SettingValue}
use Rattle.answer_certificates.specs.Certificates.{certificate_labels}
use Rattle.answer_core.specs.Staged.{either_text}
use Rattle.answer_core.specs.Abstraction.{abstract_stages}
use Rattle.answer_certificates.specs.Certify.{CertifyOf, CertifyReply, IsCertificateText}
use Rattle.answer_core.proofs.TakenDetermined.{stages_ordered, stages_sizes}
use Rattle.answer_core.proofs.StagedDetermined.{staged_determined}
use Rattle.answer_core.proofs.TakenLemmas.{circuit_bits, one_cycle}

-- a certificate of a circuit speaks of the elements of its bases alone
pub over_elements : (k : ℕ) (mul : ℕ → ℕ → ℕ) (bound : BoundNet) (bases others : List Basis) (claim : Terms) (pairs : List Step) → map elements_of bases ≡ map elements_of others → IsCertificateOf k mul bound bases claim pairs → IsCertificateOf k mul bound others claim pairs
over_elements k mul bound bases others claim pairs same is =
    let C : List (List ℕ) → Type 0 = λ es. IsOfStage k mul (IsMix (circuit_with k mul bound es) (length (circuit_with k mul bound es).words)) claim in
    let G : List (List ℕ) → Type 0 = λ es. AreCutSteps k mul bound.net (variables (nets bound.net) bound.binding.words) (output_word bound.binding.words (output_basis bound.binding.words es)) (length bound.net.gates) is.cuts in
    let W : List (List ℕ) → Type 0 = λ es. AreWordSteps (circuit_with k mul bound es) is.words in
    record { cuts = is.cuts; words = is.words; claims = subst C same is.claims; are_cuts = subst G same is.are_cuts; are_words = subst W same is.are_words; pairs_are = is.pairs_are }

module _ (setting : SettingValue) (circuit : BoundNet) (sound : IsSoundSetting setting) (text : NetlistText) (cycles : ℕ) (is : CircuitOfText setting.signature text cycles (Ok circuit)) where
  -- one text is that of its certificate
  pub one_text : (a b : List ℕ) → IsCertificateText setting circuit a → IsCertificateText setting circuit b → a ≡ b
  one_text a b first second =
      let cycle = one_cycle setting circuit sound text cycles is in
      let here = over_elements setting.k setting.product circuit first.bases second.bases first.claim first.pairs (first.duals.elements ∙ sym second.duals.elements) first.recorded in
      let same = is_only setting.k setting.product circuit second.bases first.claim second.claim first.pairs second.pairs sound.ring sound.field cycle.0 cycle.1 (circuit_bits setting circuit sound text cycles is) second.duals.are here second.recorded in
      first.written ∙ ((λ i. cert_text (certificate_labels setting circuit) (same.0 i) (same.1 i)) ∙ sym second.written)

  pub certify_determined : (bound : ℕ) → Determined (CertifyReply setting circuit bound)
  certify_determined bound =
      determined_bind (Within faults.Stage (CertifyOf setting circuit bound)) (λ t. Exactly (record { status = 0; text = t }))
      (determined_within faults.Stage (CertifyOf setting circuit bound)
      (staged_determined setting.k setting.product (abstract_stages setting circuit) (either_text (certificate_labels setting circuit)) bound (IsCertificateText setting circuit) one_text (stages_ordered setting circuit bound sound text cycles is) (stages_sizes setting circuit bound sound text cycles is)))
      (λ t. determined_exactly (record { status = 0; text = t }))
