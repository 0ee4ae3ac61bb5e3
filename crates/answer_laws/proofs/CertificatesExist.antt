-- Some reply or some fault comes of `certify`, `verify` and `upgrade`, over the setting of a text.
use Rattle.std.proofs.Common.{◌≡◌, ◌∙◌, ap, sym, refl, subst, inl, inr, ℕ, zero, suc, List, [], ◌∷◌, ◌++◌, length, map, Option, Some, Result, Ok, Err, arith}
use Rattle.outcome.specs.Outcome.{Exactly, Within}
use Rattle.outcome.proofs.SomeLemmas.{some_bind, some_exactly, some_within}
use Rattle.lists.specs.Lists.{Has}
use Rattle.lists.specs.laws.ListLaws.{length_map}
use Rattle.job_io.specs.Shelf.{Files}
use Rattle.gf_basis.specs.Basis.{IsBasis}
use Rattle.gf_basis.specs.BasisParts.{elements_of, IsBasisOver}
use Rattle.gf_basis.specs.declared.bases.Basis.{Basis}
use Rattle.gf_field.specs.Field.{HasNoZeroDivisors}
use Rattle.gf_field.specs.Ring.{IsRing}
use Rattle.net_core.specs.NetList.{nets}
use Rattle.net_words.specs.Binding.{BoundNet}
use Rattle.net_words.specs.Variables.{variables}
use Rattle.poly_mixed.specs.Labels.{AreLabels, Labelling}
use Rattle.poly_mixed.specs.Polynomial.{Terms}
use Rattle.poly_mixed.specs.Steps.{Step}
use Rattle.circuit_model.specs.Circuit.{Circuit}
use Rattle.circuit_model.specs.OfBinding.{circuit_with, output_basis, output_word}
use Rattle.circuit_model.specs.WellFormed.{IsWellFormed}
use Rattle.stage_model.specs.Cut.{BoundCut}
use Rattle.stage_model.specs.CutSteps.{AreCutSteps}
use Rattle.stage_model.specs.Mix.{IsMix}
use Rattle.stage_model.specs.Stage.{HasPolynomial, IsOfStage}
use Rattle.stage_model.specs.WordSteps.{AreWordSteps}
use Rattle.stage_model.proofs.EliminationLemmas.{some_elimination}
use Rattle.stage_model.proofs.OutputInBitsLemmas.{same_stage}
use Rattle.stage_model.proofs.SomeStageLemmas.{cut_polynomial}
use Rattle.cert_check.specs.Certificate.{AsksNothing, Certificate, CertificateOf}
use Rattle.cert_check.specs.Fault.{fault_at}
use Rattle.cert_check.specs.Verdict.{AsksAtMost, Check, Verdict}
use Rattle.cert_check.specs.declared.fault.CertFault.{CertFault}
use Rattle.cert_check.specs.declared.fault.CertFault.TheVariants as text
use Rattle.cert_check.specs.declared.fault.LineFault.{LineFault}
use Rattle.cert_check.specs.declared.fault.LineFault.TheVariants as line
use Rattle.cert_make.specs.CertText.{cert_text}
use Rattle.cert_make.specs.Recorded.{IsCertificateOf}
use Rattle.cert_make.specs.Upgrade.{UpgradeOf}
use Rattle.job_words.specs.Operands.{Word}
use Rattle.job_words.specs.declared.fault.Fault.{Fault}
use Rattle.job_words.specs.declared.fault.Fault.TheVariants as faults
use Rattle.job_input.specs.CircuitOf.{CircuitIn, CircuitOfText, UnrolledIn}
use Rattle.job_input.specs.File.{Read}
use Rattle.job_input.specs.Labelling.{labels_of}
use Rattle.job_input.specs.NetlistOf.{by_ending, NetlistIn, NetlistText}
use Rattle.job_input.specs.Setting.{elements_of_each}
use Rattle.job_input.specs.SettingOf.{SettingOf}
use Rattle.job_input.specs.SettingSound.{IsSoundSetting}
use Rattle.job_input.specs.SettingValue.{SettingValue}
use Rattle.job_input.proofs.SettingSoundLemmas.{setting_sound}
use Rattle.job_input.proofs.SignedLemmas.{setting_names}
use Rattle.answer_core.specs.Abstraction.{abstract_stages, taken_circuit}
use Rattle.answer_core.specs.Staged.{either_text}
use Rattle.answer_core.proofs.TakenLemmas.{bases_long, circuit_bits, circuit_few, circuit_roles, circuit_well, one_cycle}
use Rattle.answer_certificates.specs.Certificates.{certificate_fault_of, certificate_labels, sum_fault, CertifiedBy, CertifiedIn, CertifiedOver, HaveDuals}
use Rattle.answer_certificates.specs.Certify.{CertifyAnswer, CertifyOf, CertifyReply, IsCertificateText}
use Rattle.answer_certificates.specs.Upgrade.{UpgradeAnswer, UpgradedOf, UpgradeReply}
use Rattle.answer_certificates.specs.Verify.{verify_reply, VerdictOf, VerifyAnswer, VerifyReply}
use Rattle.answer_certificates.proofs.CertificateLabelLemmas.{has_numbers}
use Rattle.reader_laws.proofs.CertificateExists.{some_certificate, some_verdict}
use Rattle.reader_laws.proofs.NetlistExists.{some_netlist_in, some_read}
use Rattle.job_laws.specs.HasOutcome.{HasOutcome}
use Rattle.job_laws.proofs.CircuitExists.{some_circuit_in, some_unrolled}
use Rattle.exist_laws.proofs.DualsExist.{some_basis}
use Rattle.exist_laws.proofs.StepsExist.{some_steps_to, some_word_steps}
use Rattle.answer_laws.proofs.CertificateFaults.{certificate_told, IsOfLine}
use Rattle.answer_laws.proofs.SomeCircuits.{abstract_decided, some_in_words}
use Rattle.answer_laws.proofs.SomeStaged.{some_staged}

-- ---- faults of texts

-- not want of memory, of which nothing is printed
abbrev IsCalled : CertFault → Type 0
IsCalled (text.Syntax n) = Unit {0}
IsCalled (text.NoSuchNet n) = Unit {0}
IsCalled (text.NoSuchBit n) = Unit {0}
IsCalled (text.NotDriven n) = Unit {0}
IsCalled (text.NoSuchLet n) = Unit {0}
IsCalled text.NoEnd = Unit {0}
IsCalled (text.TooManyTerms n terms) = Unit {0}
IsCalled text.OutOfMemory = ⊥

-- and no running sum
abbrev IsText : CertFault → Type 0
IsText (text.Syntax n) = Unit {0}
IsText (text.NoSuchNet n) = Unit {0}
IsText (text.NoSuchBit n) = Unit {0}
IsText (text.NotDriven n) = Unit {0}
IsText (text.NoSuchLet n) = Unit {0}
IsText text.NoEnd = Unit {0}
IsText (text.TooManyTerms n terms) = ⊥
IsText text.OutOfMemory = ⊥

line_text : (n : ℕ) (fault : LineFault) → IsOfLine fault → IsText (fault_at n fault)
line_text n line.Syntax is = tt
line_text n line.NoSuchNet is = tt
line_text n line.NoSuchBit is = tt
line_text n line.NotDriven is = tt
line_text n line.NoSuchLet is = tt
line_text n line.OutOfMemory is = is

text_called : (fault : CertFault) → IsText fault → IsCalled fault
text_called (text.Syntax n) is = tt
text_called (text.NoSuchNet n) is = tt
text_called (text.NoSuchBit n) is = tt
text_called (text.NotDriven n) is = tt
text_called (text.NoSuchLet n) is = tt
text_called text.NoEnd is = tt
text_called (text.TooManyTerms n terms) is = tt
text_called text.OutOfMemory is = is

called_text : (fault : CertFault) → IsText fault → (called : Fault) × (certificate_fault_of fault ≡ Some called)
called_text (text.Syntax n) is = (_, refl)
called_text (text.NoSuchNet n) is = (_, refl)
called_text (text.NoSuchBit n) is = (_, refl)
called_text (text.NotDriven n) is = (_, refl)
called_text (text.NoSuchLet n) is = (_, refl)
called_text text.NoEnd is = (_, refl)
called_text (text.TooManyTerms n terms) is = absurd is
called_text text.OutOfMemory is = absurd is

called_sum : (bound : ℕ) (fault : CertFault) → IsCalled fault → (called : Fault) × (sum_fault bound fault ≡ Some called)
called_sum bound (text.Syntax n) is = (_, refl)
called_sum bound (text.NoSuchNet n) is = (_, refl)
called_sum bound (text.NoSuchBit n) is = (_, refl)
called_sum bound (text.NotDriven n) is = (_, refl)
called_sum bound (text.NoSuchLet n) is = (_, refl)
called_sum bound text.NoEnd is = (_, refl)
called_sum bound (text.TooManyTerms n terms) is = (_, refl)
called_sum bound text.OutOfMemory is = absurd is

-- ---- duals

module _ (k : ℕ) (mul : ℕ → ℕ → ℕ) (ring : IsRing k mul) (field : HasNoZeroDivisors k mul) where
  -- bases that keep these elements with their duals
  record AreKept (bases : List (List ℕ)) (kept : List Basis) : Type 0 where
    pub elements : elements_of_each kept ≡ bases
    pub each : (basis : Basis) → Has kept basis → IsBasisOver k mul basis

  each_more : (first : Basis) (kept : List Basis) → IsBasisOver k mul first → ((basis : Basis) → Has kept basis → IsBasisOver k mul basis) → (basis : Basis) → Has (first ∷ kept) basis → IsBasisOver k mul basis
  each_more first kept is each basis (zero, got) = let same : first ≡ basis = cc in let P : Basis → Type 0 = IsBasisOver k mul in subst P same is
  each_more first kept is each basis (suc i, got) = each basis (i, got)

  some_kept : (bases : List (List ℕ)) → ((basis : List ℕ) → Has bases basis → IsBasis k basis) → (kept : List Basis) × AreKept bases kept
  some_kept [] each = ([], record { elements = refl; each = λ basis has. absurd (let got = has.1 in absurd (cc)) })
  some_kept (first ∷ bases) each =
      let made = some_basis k mul ring field first (each first (0, refl)) in
      let rest = some_kept bases (λ basis has. each basis (suc has.0, has.1)) in
      (made.0 ∷ rest.0, record { elements = λ i. made.1 i ∷ rest.1.elements i; each = each_more made.0 rest.0 made.2 rest.1.each })

-- ---- over a circuit

module _ (setting : SettingValue) (bytes : List ℕ) (is_setting : SettingOf bytes (Ok setting)) (source : NetlistText) (cycles : ℕ) (circuit : BoundNet) (of : CircuitOfText setting.signature source cycles (Ok circuit)) where
  abbrev sound : IsSoundSetting setting
  sound = setting_sound bytes setting is_setting

  abbrev labels : Labelling
  labels = certificate_labels setting circuit

  right : AreLabels labels
  right =
      let cycle = one_cycle setting circuit sound source cycles of in
      let few = circuit_few setting circuit sound source cycles of in
      (has_numbers setting.k setting.signature.words circuit sound.words (setting_names bytes setting is_setting) cycle.0 cycle.1 (circuit_bits setting circuit sound source cycles of) (circuit_roles setting circuit sound source cycles of) (omega (arith, few))).are_labels

  well : IsWellFormed (taken_circuit setting circuit)
  well = circuit_well setting circuit sound source cycles of

  long : length setting.bases ≡ length circuit.binding.words
  long = bases_long setting circuit sound source cycles of

  some_duals : (bases : List Basis) × HaveDuals setting circuit bases
  some_duals =
      let kept = some_kept setting.k setting.product sound.ring sound.field setting.bases sound.each in
      (kept.0, record { elements = kept.1.elements; are = record { long = sym (length_map elements_of kept.0) ∙ (ap length kept.1.elements ∙ long); each = kept.1.each } })

  -- ---- verify

  module _ (bound : ℕ) (certificate : List ℕ) where
    asked_called : (bases : List Basis) (n : ℕ) (c : Certificate) (fault : CertFault) → AsksAtMost setting.k setting.product circuit bases bound n c (Err fault) → IsCalled fault
    asked_called bases n c fault (sum, is, many, same) = let P : CertFault → Type 0 = IsCalled in subst P (sym same) tt

    check_called : (bases : List Basis) (fault : CertFault) → Check setting.k setting.product circuit bases labels bound certificate (Err fault) → IsCalled fault
    check_called bases fault (inl is) =
        certificate_told setting.k circuit.net labels (AsksAtMost setting.k setting.product circuit bases bound) IsCalled (λ n f told. text_called (fault_at n f) (line_text n f told)) tt (asked_called bases) certificate fault is
    check_called bases fault (inr (c, read, is)) = absurd is

    verdict_by : (bases : List Basis) → HaveDuals setting circuit bases → (outcome : Result Verdict CertFault) → Check setting.k setting.product circuit bases labels bound certificate outcome → HasOutcome (VerdictOf setting circuit bound certificate)
    verdict_by bases duals (Ok verdict) is = (Ok verdict, (bases, duals, is))
    verdict_by bases duals (Err fault) is = let called = called_sum bound fault (check_called bases fault is) in (Err called.0, (bases, duals, fault, is, called.1))

    some_verdict_of : HasOutcome (VerdictOf setting circuit bound certificate)
    some_verdict_of =
        let duals = some_duals in
        let verdict = some_verdict setting.k setting.product sound.ring sound.field circuit duals.0 duals.1.are labels right bound certificate in
        verdict_by duals.0 duals.1 verdict.0 verdict.1

    pub some_verify_reply : HasOutcome (VerifyReply setting bound (circuit, certificate))
    some_verify_reply =
        let words = labels_of setting.k setting.signature.words in
        some_bind (VerdictOf setting circuit bound certificate) (λ verdict. Exactly (verify_reply words verdict)) some_verdict_of (λ verdict may. some_exactly (verify_reply words verdict))

  -- ---- upgrade

  module _ (certificate : List ℕ) where
    some_upgrade_of : HasOutcome (UpgradeOf setting.k circuit.net labels certificate)
    some_upgrade_of =
        some_bind (CertificateOf setting.k circuit.net labels certificate) (λ c. Exactly (cert_text labels c.claim c.pairs)) (some_certificate setting.k labels sound.ring.some right circuit.net certificate) (λ c may. some_exactly (cert_text labels c.claim c.pairs))

    upgrade_text : (fault : CertFault) → UpgradeOf setting.k circuit.net labels certificate (Err fault) → IsText fault
    upgrade_text fault (inl is) = certificate_told setting.k circuit.net labels (AsksNothing setting.k circuit.net labels) IsText line_text tt (λ n c f never. absurd never) certificate fault is
    upgrade_text fault (inr (c, read, is)) = absurd is

    upgraded_by : (outcome : Result (List ℕ) CertFault) → UpgradeOf setting.k circuit.net labels certificate outcome → HasOutcome (UpgradedOf setting circuit certificate)
    upgraded_by (Ok written) is = (Ok written, is)
    upgraded_by (Err fault) is = let called = called_text fault (upgrade_text fault is) in (Err called.0, (fault, is, called.1))

    pub some_upgrade_reply : HasOutcome (UpgradeReply setting (circuit, certificate))
    some_upgrade_reply = some_bind (UpgradedOf setting circuit certificate) (λ t. Exactly (record { status = 0; text = t })) (upgraded_by some_upgrade_of.0 some_upgrade_of.1) (λ t may. some_exactly (record { status = 0; text = t }))

  -- ---- certify

  cut : (t : ℕ) → HasPolynomial setting.k setting.product (BoundCut circuit (output_basis circuit.binding.words setting.bases) t)
  cut t =
      let found = cut_polynomial (taken_circuit setting circuit) well t in
      (found.0, (same_stage setting.k setting.product circuit setting.bases (output_basis circuit.binding.words setting.bases) t found.0 long refl).1 found.1)

  abbrev AreCuts : List (List ℕ) → List Step → Type 0
  AreCuts elements = AreCutSteps setting.k setting.product circuit.net (variables (nets circuit.net) circuit.binding.words) (output_word circuit.binding.words (output_basis circuit.binding.words elements)) (length circuit.net.gates)

  some_cuts : (steps : List Step) × AreCuts setting.bases steps
  some_cuts =
      let order = some_elimination circuit.net (one_cycle setting circuit sound source cycles of).0 in
      let made = some_steps_to setting.k setting.product circuit.net (variables (nets circuit.net) circuit.binding.words) (output_word circuit.binding.words (output_basis circuit.binding.words setting.bases)) cut order.0 order.1 (length circuit.net.gates) (omega arith) in
      (made.0, record { order = order.0; elimination = order.1; are = made.1 })

  some_recorded : (bases : List Basis) → HaveDuals setting circuit bases → (claim : Terms) × (pairs : List Step) × IsCertificateOf setting.k setting.product circuit bases claim pairs
  some_recorded bases duals =
      let circuit_of : List (List ℕ) → Circuit = λ elements. circuit_with setting.k setting.product circuit elements in
      let claim = some_in_words setting circuit well in
      let words = some_word_steps (taken_circuit setting circuit) well in
      let same : setting.bases ≡ map elements_of bases = sym duals.elements in
      let C : List (List ℕ) → Type 0 = λ elements. IsOfStage setting.k setting.product (IsMix (circuit_with setting.k setting.product circuit elements) (length (circuit_with setting.k setting.product circuit elements).words)) claim.0 in
      let G : List (List ℕ) → Type 0 = λ elements. AreCuts elements some_cuts.0 in
      let W : List (List ℕ) → Type 0 = λ elements. AreWordSteps (circuit_with setting.k setting.product circuit elements) words.0 in (
        claim.0,
        some_cuts.0 ++ words.0,
        record { cuts = some_cuts.0; words = words.0; claims = subst C same claim.1; are_cuts = subst G same some_cuts.1; are_words = subst W same words.1; pairs_are = refl },
      )

  some_text : (written : List ℕ) × IsCertificateText setting circuit written
  some_text =
      let duals = some_duals in
      let made = some_recorded duals.0 duals.1 in
      (cert_text labels made.0 made.1, record { bases = duals.0; duals = duals.1; claim = made.0; pairs = made.1; recorded = made.2; written = refl })

  some_certify_of : (bound : ℕ) → HasOutcome (CertifyOf setting circuit bound)
  some_certify_of bound = some_staged setting.k setting.product (abstract_stages setting circuit) (either_text labels) bound (IsCertificateText setting circuit) some_text.0 some_text.1 (abstract_decided setting circuit bound well long)

  pub some_certify_reply : (bound : ℕ) → HasOutcome (CertifyReply setting circuit bound)
  some_certify_reply bound =
      some_bind (Within faults.Stage (CertifyOf setting circuit bound)) (λ t. Exactly (record { status = 0; text = t })) (some_within faults.Stage (CertifyOf setting circuit bound) (some_certify_of bound)) (λ t may. some_exactly (record { status = 0; text = t }))

-- ---- the answers

module _ (held : Option Files) (bytes : List ℕ) (setting : SettingValue) (is_setting : SettingOf bytes (Ok setting)) (net file : Word) (bound cycles : ℕ) where
  pub some_certify : HasOutcome (CertifyAnswer held setting net bound cycles)
  some_certify =
      some_bind (CircuitIn held setting.signature net cycles) (λ circuit. CertifyReply setting circuit bound) (some_circuit_in held setting.signature net cycles)
      (λ circuit is. some_certify_reply setting bytes is_setting (by_ending net is.1.0) cycles circuit (is.0, is.1.2, is.2) bound)

  some_by : (netlist : BoundNet) (certificate : List ℕ) → HasOutcome (CertifiedBy net netlist cycles certificate)
  some_by netlist certificate = some_bind (UnrolledIn net netlist cycles) (λ circuit. Exactly (circuit, certificate)) (some_unrolled net netlist cycles) (λ circuit may. some_exactly (circuit, certificate))

  some_certified : HasOutcome (CertifiedIn held setting.signature net file cycles)
  some_certified =
      some_bind (NetlistIn held setting.signature net) (λ netlist. CertifiedOver held net netlist file cycles) (some_netlist_in held setting.signature net)
      (λ netlist may. some_bind (Within faults.File (Read held file)) (λ certificate. CertifiedBy net netlist cycles certificate) (some_within faults.File (Read held file) (some_read held file)) (λ certificate read. some_by netlist certificate))

  verify_after : (certified : BoundNet × List ℕ) (netlist : BoundNet) → NetlistIn held setting.signature net (Ok netlist) → (certificate : List ℕ) → Within faults.File (Read held file) (Ok certificate) → CertifiedBy net netlist cycles certificate (Ok certified) → HasOutcome (VerifyReply setting bound certified)
  verify_after certified netlist netlist_in certificate read (circuit, of, same) =
      let P : BoundNet × List ℕ → Type 0 = λ c. HasOutcome (VerifyReply setting bound c) in
      subst P (sym same) (some_verify_reply setting bytes is_setting (by_ending net netlist_in.0) cycles circuit (netlist, netlist_in.2, of) bound certificate)

  upgrade_after : (certified : BoundNet × List ℕ) (netlist : BoundNet) → NetlistIn held setting.signature net (Ok netlist) → (certificate : List ℕ) → Within faults.File (Read held file) (Ok certificate) → CertifiedBy net netlist cycles certificate (Ok certified) → HasOutcome (UpgradeReply setting certified)
  upgrade_after certified netlist netlist_in certificate read (circuit, of, same) =
      let P : BoundNet × List ℕ → Type 0 = λ c. HasOutcome (UpgradeReply setting c) in
      subst P (sym same) (some_upgrade_reply setting bytes is_setting (by_ending net netlist_in.0) cycles circuit (netlist, netlist_in.2, of) certificate)

  pub some_verify : HasOutcome (VerifyAnswer held setting net file bound cycles)
  some_verify =
      some_bind (CertifiedIn held setting.signature net file cycles) (VerifyReply setting bound) some_certified
      (λ certified is. verify_after certified is.0 is.1 is.2.0 is.2.1 is.2.2)

  pub some_upgrade : HasOutcome (UpgradeAnswer held setting net file cycles)
  some_upgrade =
      some_bind (CertifiedIn held setting.signature net file cycles) (UpgradeReply setting) some_certified
      (λ certified is. upgrade_after certified is.0 is.1 is.2.0 is.2.1 is.2.2)
