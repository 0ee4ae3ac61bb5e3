-- Each fault that may come is one line.
use Rattle.std.proofs.Common.{◌≡◌, inl, inr, refl, subst, sym, ℕ, Bool, List, length, Option, Some, Ok, Err}
use Rattle.std.specs.Prelude.{codes, decimal}
use Rattle.outcome.specs.Outcome.{Within}
use Rattle.job_io.specs.Shelf.{Files}
use Rattle.net_words.specs.Binding.{BoundNet}
use Rattle.net_signature.specs.WordNames.{HaveNames}
use Rattle.poly_mixed.specs.Labels.{Labelling}
use Rattle.poly_mixed.specs.declared.stage.Stage.{Stage}
use Rattle.spec_expand.specs.Specification.{SpecTerms}
use Rattle.spec_expand.specs.SpecListing.{spec_listing}
use Rattle.stage_model.specs.Listing.{Joined, Earlier, Later, Listing}
use Rattle.cert_check.specs.declared.fault.CertFault.{CertFault}
use Rattle.cert_check.specs.declared.fault.CertFault.TheVariants as text
use Rattle.job_words.specs.declared.certificate_fault.CertificateFault.TheVariants as certificate
use Rattle.job_words.specs.Command.{Action, Bits, Abstract, Check, Same, Eval, Iso, Lift, Table, Certify, Verify, Upgrade, Make, Compose, Over, Trial, IsSpelled}
use Rattle.job_words.specs.Fault.{fault_line}
use Rattle.job_words.specs.OneLine.{HasNoLineFeed, IsOneLine, KeepsToItsLine}
use Rattle.job_words.specs.Operands.{Word}
use Rattle.job_words.specs.StageFault.{stage_text}
use Rattle.job_words.specs.declared.fault.Fault.{Fault}
use Rattle.job_words.specs.declared.fault.Fault.TheVariants as faults
use Rattle.job_words.specs.declared.signature_fault.SignatureFault.{SignatureFault}
use Rattle.job_words.specs.declared.stage_fault.StageFault.{StageFault}
use Rattle.job_words.proofs.OneLineLemmas.{before_kept, clean_kept, number_clean, one_line, stage_kept}
use Rattle.job_input.specs.CircuitOf.{CircuitIn}
use Rattle.job_input.specs.Labelling.{labels_of}
use Rattle.job_input.specs.SettingOf.{SignedOf, SignedValue}
use Rattle.job_input.specs.SettingValue.{SettingValue}
use Rattle.job_input.proofs.FileLineLemmas.{HaveKeptNames, cycles_keep, field_keeps, file_keeps, labels_kept, netlist_file_keeps, operand_kept, second_keeps, setting_keeps, signed_keeps, specification_keeps, table_keeps, same_line}
use Rattle.job_input.proofs.SignedLemmas.{setting_names}
use Rattle.make_trial.specs.Trial.{product_terms, trial_circuit, trial_setting}
use Rattle.make_trial.proofs.SaidLemmas.{trial_said}
use Rattle.gf_abs.specs.Answer.{ActionAnswer, Answer, JobAnswer, SignedAnswer}
use Rattle.answer_polynomials.specs.Values.{ValuesOf}
use Rattle.answer_core.specs.Staged.{IsStageOver, either_net_text, either_text}
use Rattle.answer_core.specs.Simpler.{SimplerIn, SimplerUnrolledIn}
use Rattle.answer_core.specs.Abstraction.{abstract_stages, taken_circuit, bits_stages}
use Rattle.answer_polynomials.specs.Abstract.{AbstractReply}
use Rattle.answer_polynomials.specs.Bits.{BitsReply}
use Rattle.answer_certificates.specs.Certificates.{CertifiedIn, certificate_labels, sum_fault, sum_name, certificate_fault_of}
use Rattle.answer_certificates.specs.Certify.{CertifyReply}
use Rattle.answer_polynomials.specs.Check.{CheckReply}
use Rattle.answer_polynomials.specs.Same.{SameReply, same_stages}
use Rattle.answer_makers.specs.Trial.{TrialAnswer, TrialReply}
use Rattle.answer_certificates.specs.Upgrade.{UpgradeReply}
use Rattle.answer_certificates.specs.Verify.{VerifyReply}
use Rattle.answer_composition.proofs.BlockSettingLemmas.{setting_blocks, HaveBlockNames}
use Rattle.answer_composition.proofs.ComposeLineLemmas.{compose_kept}

-- ---- what the words of a command name

-- the signature's name has no line feed
signature_kept : (words : List Word) (signature : Word) (action : Action) → IsSpelled words (Over signature action) → HasNoLineFeed signature
signature_kept words signature (Compose net terms) is = operand_kept signature is.follow.files.signature_is
signature_kept words signature action is = operand_kept signature is.follow.signature_is

-- ---- stages

-- the first stage over the bound, whatever the stages are called
over_kept : (k : ℕ) (mul : ℕ → ℕ → ℕ) {N : Type 0} (listing : Listing N) (called : N → List ℕ) (bound : ℕ) (fault : Fault) → ((name : N) → HasNoLineFeed (called name)) → (stage : StageFault) → IsStageOver k mul listing called bound stage → fault ≡ faults.Stage stage → KeepsToItsLine fault
over_kept k mul listing called bound fault kept stage over same = let P : List ℕ → Type 0 = HasNoLineFeed in same_line fault (faults.Stage stage) same (subst P (sym over.text) (kept over.name), tt)

module _ (labels : Labelling) (names : HaveKeptNames labels.words) where
  one_kept : (stage : Stage) → HasNoLineFeed (stage_text labels stage)
  one_kept stage = stage_kept labels stage names

  either_kept : (stage : Joined Stage Stage) → HasNoLineFeed (either_text labels stage)
  either_kept (Earlier stage) = one_kept stage
  either_kept (Later stage) = one_kept stage

  net_kept : (stage : Joined Stage Stage) → HasNoLineFeed (either_net_text labels stage)
  net_kept (Earlier stage) = one_kept stage
  net_kept (Later stage) = before_kept (codes "second ") (stage_text labels stage) refl (one_kept stage)

-- ---- certificates

some_line : (fault other : Fault) → ◌≡◌ {A = Option Fault} (Some other) (Some fault) → KeepsToItsLine other → KeepsToItsLine fault
some_line fault other same keeps = let equal : fault ≡ other = cc in same_line fault other equal keeps

-- a fault of a certificate's text repeats nothing
text_kept : (found : CertFault) (fault : Fault) → certificate_fault_of found ≡ Some fault → KeepsToItsLine fault
text_kept (text.Syntax line) fault same = some_line fault (faults.Certificate (certificate.Syntax line)) same tt
text_kept (text.NoSuchNet line) fault same = some_line fault (faults.Certificate (certificate.NoSuchNet line)) same tt
text_kept (text.NoSuchBit line) fault same = some_line fault (faults.Certificate (certificate.NoSuchBit line)) same tt
text_kept (text.NotDriven line) fault same = some_line fault (faults.Certificate (certificate.NotDriven line)) same tt
text_kept (text.NoSuchLet line) fault same = some_line fault (faults.Certificate (certificate.NoSuchLet line)) same tt
text_kept text.NoEnd fault same = some_line fault (faults.Certificate certificate.NoEnd) same tt
text_kept (text.TooManyTerms line terms) fault same = absurd (cc)
text_kept text.OutOfMemory fault same = absurd (cc)

-- a running sum is called by its line's number
sum_kept : (bound : ℕ) (found : CertFault) (fault : Fault) → sum_fault bound found ≡ Some fault → KeepsToItsLine fault
sum_kept bound (text.TooManyTerms line terms) fault same =
    some_line fault (faults.Stage (record { stage = sum_name line; terms = terms; bound = bound })) same (before_kept (codes "certificate line ") (decimal line) refl (clean_kept (decimal line) (number_clean line)), tt)
sum_kept bound (text.Syntax line) fault same = text_kept (text.Syntax line) fault same
sum_kept bound (text.NoSuchNet line) fault same = text_kept (text.NoSuchNet line) fault same
sum_kept bound (text.NoSuchBit line) fault same = text_kept (text.NoSuchBit line) fault same
sum_kept bound (text.NotDriven line) fault same = text_kept (text.NotDriven line) fault same
sum_kept bound (text.NoSuchLet line) fault same = text_kept (text.NoSuchLet line) fault same
sum_kept bound text.NoEnd fault same = text_kept text.NoEnd fault same
sum_kept bound text.OutOfMemory fault same = absurd (cc)

-- ---- the reply of each command

module _ (setting : SettingValue) (names : HaveNames setting.signature.words) where
  kept : HaveKeptNames (labels_of setting.k setting.signature.words).words
  kept = labels_kept setting.k setting.signature.words names

  bits_kept : (circuit : BoundNet) (bound : ℕ) (fault : Fault) → BitsReply setting circuit bound (Err fault) → KeepsToItsLine fault
  bits_kept circuit bound fault (inl (stage, over, same)) = over_kept setting.k setting.product (bits_stages setting circuit) (stage_text (labels_of setting.k setting.signature.words)) bound fault (one_kept (labels_of setting.k setting.signature.words) kept) stage over same
  bits_kept circuit bound fault (inr (ts, of, never)) = absurd never

  abstract_kept : (circuit : BoundNet) (bound : ℕ) (fault : Fault) → AbstractReply setting circuit bound (Err fault) → KeepsToItsLine fault
  abstract_kept circuit bound fault (inl (stage, over, same)) = over_kept setting.k setting.product (abstract_stages setting circuit) (either_text (labels_of setting.k setting.signature.words)) bound fault (either_kept (labels_of setting.k setting.signature.words) kept) stage over same
  abstract_kept circuit bound fault (inr (ts, of, never)) = absurd never

  same_kept : (circuit other : BoundNet) (bound : ℕ) (fault : Fault) → SameReply setting circuit other bound (Err fault) → KeepsToItsLine fault
  same_kept circuit other bound fault (inl (stage, over, same)) = over_kept setting.k setting.product (same_stages setting circuit other) (either_net_text (labels_of setting.k setting.signature.words)) bound fault (net_kept (labels_of setting.k setting.signature.words) kept) stage over same
  same_kept circuit other bound fault (inr (found, of, never)) = absurd never

  check_kept : (circuit : BoundNet) (spec : SpecTerms) (bound : ℕ) (fault : Fault) → CheckReply setting circuit spec bound (Err fault) → KeepsToItsLine fault
  check_kept circuit spec bound fault (inl (inl (stage, over, same))) = over_kept setting.k setting.product (abstract_stages setting circuit) (either_text (labels_of setting.k setting.signature.words)) bound fault (either_kept (labels_of setting.k setting.signature.words) kept) stage over same
  check_kept circuit spec bound fault (inl (inr (ts, of, never))) = absurd never
  check_kept circuit spec bound fault (inr (line, of, inl (stage, over, same))) = over_kept setting.k setting.product (spec_listing (taken_circuit setting circuit) spec) (stage_text (labels_of setting.k setting.signature.words)) bound fault (one_kept (labels_of setting.k setting.signature.words) kept) stage over same
  check_kept circuit spec bound fault (inr (line, of, inr (found, is, never))) = absurd never

  trial_reply_kept : (circuit : BoundNet) (spec : SpecTerms) (number bound : ℕ) (fault : Fault) → TrialReply setting circuit spec number bound (Err fault) → KeepsToItsLine fault
  trial_reply_kept circuit spec number bound fault (inl (inl (stage, over, same))) = over_kept setting.k setting.product (abstract_stages setting circuit) (either_text (labels_of setting.k setting.signature.words)) bound fault (either_kept (labels_of setting.k setting.signature.words) kept) stage over same
  trial_reply_kept circuit spec number bound fault (inl (inr (ts, of, never))) = absurd never
  trial_reply_kept circuit spec number bound fault (inr (terms, of, inl (stage, over, same))) = over_kept setting.k setting.product (spec_listing (taken_circuit setting circuit) spec) (stage_text (labels_of setting.k setting.signature.words)) bound fault (one_kept (labels_of setting.k setting.signature.words) kept) stage over same
  trial_reply_kept circuit spec number bound fault (inr (terms, of, inr (found, is, never))) = absurd never

  certify_kept : (circuit : BoundNet) (bound : ℕ) (fault : Fault) → CertifyReply setting circuit bound (Err fault) → KeepsToItsLine fault
  certify_kept circuit bound fault (inl (stage, over, same)) = over_kept setting.k setting.product (abstract_stages setting circuit) (either_text (certificate_labels setting circuit)) bound fault (either_kept (certificate_labels setting circuit) kept) stage over same
  certify_kept circuit bound fault (inr (t, of, never)) = absurd never

  verify_kept : (bound : ℕ) (certified : BoundNet × List ℕ) (fault : Fault) → VerifyReply setting bound certified (Err fault) → KeepsToItsLine fault
  verify_kept bound certified fault (inl (bases, duals, found, is, same)) = sum_kept bound found fault same
  verify_kept bound certified fault (inr (verdict, of, never)) = absurd never

  upgrade_kept : (certified : BoundNet × List ℕ) (fault : Fault) → UpgradeReply setting certified (Err fault) → KeepsToItsLine fault
  upgrade_kept certified fault (inl (found, is, same)) = text_kept found fault same
  upgrade_kept certified fault (inr (t, of, never)) = absurd never

  -- ---- the answer of each command

  circuit_kept : (held : Option Files) (net : Word) (cycles : ℕ) (fault : Fault) → HasNoLineFeed net → CircuitIn held setting.signature net cycles (Err fault) → KeepsToItsLine fault
  circuit_kept held net cycles fault is (inl wrong) = netlist_file_keeps held setting.signature net fault names is wrong
  circuit_kept held net cycles fault is (inr (netlist, taken, wrong)) = cycles_keep net netlist cycles fault is wrong

  simpler_kept : (held : Option Files) (net : Word) (cycles : ℕ) (simple : Bool) (fault : Fault) → HasNoLineFeed net → SimplerIn held setting.signature net cycles simple (Err fault) → KeepsToItsLine fault
  simpler_kept held net cycles simple fault is (inl wrong) = circuit_kept held net cycles fault is wrong
  simpler_kept held net cycles simple fault is (inr (circuit, of, never)) = absurd never

  cycles_with_kept : (net : Word) (netlist : BoundNet) (cycles : ℕ) (simple : Bool) (fault : Fault) → HasNoLineFeed net → SimplerUnrolledIn net netlist cycles simple (Err fault) → KeepsToItsLine fault
  cycles_with_kept net netlist cycles simple fault is (inl wrong) = cycles_keep net netlist cycles fault is wrong
  cycles_with_kept net netlist cycles simple fault is (inr (circuit, of, never)) = absurd never

  certified_kept : (held : Option Files) (net file : Word) (cycles : ℕ) (fault : Fault) → HasNoLineFeed net → HasNoLineFeed file → CertifiedIn held setting.signature net file cycles (Err fault) → KeepsToItsLine fault
  certified_kept held net file cycles fault is also (inl wrong) = netlist_file_keeps held setting.signature net fault names is wrong
  certified_kept held net file cycles fault is also (inr (netlist, taken, inl wrong)) = file_keeps held file fault also wrong
  certified_kept held net file cycles fault is also (inr (netlist, taken, inr (bytes, read, inl wrong))) = cycles_keep net netlist cycles fault is wrong
  certified_kept held net file cycles fault is also (inr (netlist, taken, inr (bytes, read, inr (circuit, of, never)))) = absurd never

  -- faults of values repeat nothing
  values_kept : (k count : ℕ) (values : List Word) (fault : Fault) → Within faults.Value (ValuesOf k count values) (Err fault) → KeepsToItsLine fault
  values_kept k count values fault (other, wrong, same) = same_line fault (faults.Value other) same tt

  module _ (block_names : HaveBlockNames setting.signature) where
    -- of a command that these words spell
    action_kept : (held : Option Files) (words : List Word) (signature : Word) (action : Action) (fault : Fault) → IsSpelled words (Over signature action) → ActionAnswer held setting action (Err fault) → KeepsToItsLine fault
    action_kept held words signature (Bits net terms cycles simple) fault is (inl wrong) = simpler_kept held net cycles simple fault (operand_kept net is.follow.file_is) wrong
    action_kept held words signature (Bits net terms cycles simple) fault is (inr (circuit, taken, wrong)) = bits_kept circuit terms fault wrong
    action_kept held words signature (Abstract net terms cycles simple) fault is (inl wrong) = simpler_kept held net cycles simple fault (operand_kept net is.follow.file_is) wrong
    action_kept held words signature (Abstract net terms cycles simple) fault is (inr (circuit, taken, wrong)) = abstract_kept circuit terms fault wrong
    action_kept held words signature (Check net specification terms cycles simple) fault is (inl wrong) = netlist_file_keeps held setting.signature net fault names (operand_kept net is.follow.file_is) wrong
    action_kept held words signature (Check net specification terms cycles simple) fault is (inr (netlist, taken, inl wrong)) = specification_keeps held (labels_of setting.k setting.signature.words) setting.k setting.product specification fault (operand_kept specification is.follow.other_is) wrong
    action_kept held words signature (Check net specification terms cycles simple) fault is (inr (netlist, taken, inr (spec, said, inl wrong))) = cycles_with_kept net netlist cycles simple fault (operand_kept net is.follow.file_is) wrong
    action_kept held words signature (Check net specification terms cycles simple) fault is (inr (netlist, taken, inr (spec, said, inr (circuit, of, wrong)))) = check_kept circuit spec terms fault wrong
    action_kept held words signature (Same net other terms cycles simple) fault is (inl wrong) = netlist_file_keeps held setting.signature net fault names (operand_kept net is.follow.file_is) wrong
    action_kept held words signature (Same net other terms cycles simple) fault is (inr (netlist, taken, inl wrong)) = netlist_file_keeps held setting.signature other fault names (operand_kept other is.follow.other_is) wrong
    action_kept held words signature (Same net other terms cycles simple) fault is (inr (netlist, taken, inr (second, more, inl wrong))) = cycles_with_kept net netlist cycles simple fault (operand_kept net is.follow.file_is) wrong
    action_kept held words signature (Same net other terms cycles simple) fault is (inr (netlist, taken, inr (second, more, inr (circuit, of, inl wrong)))) = cycles_with_kept other second cycles simple fault (operand_kept other is.follow.other_is) wrong
    action_kept held words signature (Same net other terms cycles simple) fault is (inr (netlist, taken, inr (second, more, inr (circuit, of, inr (beside, of', wrong))))) = same_kept circuit beside terms fault wrong
    action_kept held words signature (Eval net values cycles) fault is (inl wrong) = netlist_file_keeps held setting.signature net fault names (operand_kept net is.follow.file_is) wrong
    action_kept held words signature (Eval net values cycles) fault is (inr (netlist, taken, inl wrong)) = values_kept setting.k (length (labels_of setting.k setting.signature.words).words) values fault wrong
    action_kept held words signature (Eval net values cycles) fault is (inr (netlist, taken, inr (xs, are, inl wrong))) = cycles_keep net netlist cycles fault (operand_kept net is.follow.file_is) wrong
    action_kept held words signature (Eval net values cycles) fault is (inr (netlist, taken, inr (xs, are, inr (circuit, of, never)))) = absurd never
    action_kept held words signature (Iso other) fault is (inl wrong) = second_keeps held other fault (operand_kept other is.follow.file_is) wrong
    action_kept held words signature (Iso other) fault is (inr (second, taken, wrong)) = same_line fault faults.Fields wrong.0 tt
    action_kept held words signature (Lift table) fault is (inl wrong) = same_line fault faults.NotSmall wrong.0 tt
    action_kept held words signature (Lift table) fault is (inr (small, fits, inl wrong)) = table_keeps held setting.k _ table fault (operand_kept table is.follow.file_is) wrong
    action_kept held words signature (Lift table) fault is (inr (small, fits, inr (values, taken, never))) = absurd never
    action_kept held words signature (Table net cycles) fault is (inl wrong) = same_line fault faults.NotSmall wrong.0 tt
    action_kept held words signature (Table net cycles) fault is (inr (small, fits, inl wrong)) = circuit_kept held net cycles fault (operand_kept net is.follow.file_is) wrong
    action_kept held words signature (Table net cycles) fault is (inr (small, fits, inr (circuit, taken, never))) = absurd never
    action_kept held words signature (Certify net terms cycles) fault is (inl wrong) = circuit_kept held net cycles fault (operand_kept net is.follow.file_is) wrong
    action_kept held words signature (Certify net terms cycles) fault is (inr (circuit, taken, wrong)) = certify_kept circuit terms fault wrong
    action_kept held words signature (Verify net file terms cycles) fault is (inl wrong) = certified_kept held net file cycles fault (operand_kept net is.follow.file_is) (operand_kept file is.follow.other_is) wrong
    action_kept held words signature (Verify net file terms cycles) fault is (inr (certified, taken, wrong)) = verify_kept terms certified fault wrong
    action_kept held words signature (Upgrade net file cycles) fault is (inl wrong) = certified_kept held net file cycles fault (operand_kept net is.follow.file_is) (operand_kept file is.follow.other_is) wrong
    action_kept held words signature (Upgrade net file cycles) fault is (inr (certified, taken, wrong)) = upgrade_kept certified fault wrong
    action_kept held words signature (Make kind) fault is (inl wrong) = same_line fault (faults.Form kind) wrong.0 tt
    action_kept held words signature (Make kind) fault is (inr (net, made, never)) = absurd never
    action_kept held words signature (Compose net terms) fault is wrong = compose_kept held setting net terms fault names block_names (operand_kept net is.follow.files.file_is) wrong

signed_kept : (held : Option Files) (text : List ℕ) (signed : SignedValue) (words : List Word) (signature : Word) (action : Action) (fault : Fault) → SignedOf text (Ok signed) → IsSpelled words (Over signature action) → SignedAnswer held signed action (Err fault) → KeepsToItsLine fault
signed_kept held text signed words signature action fault is spelled (inl (other, wrong, same)) = same_line fault (faults.Signature other) same (setting_keeps signed other wrong)
signed_kept held text signed words signature action fault is spelled (inr (setting, taken, wrong)) = action_kept setting (setting_names text setting (signed, is, taken)) (λ block has. (setting_blocks text setting (signed, is, taken) block has).names) held words signature action fault spelled wrong

job_kept : (held : Option Files) (words : List Word) (signature : Word) (action : Action) (fault : Fault) → IsSpelled words (Over signature action) → JobAnswer held (Over signature action) (Err fault) → KeepsToItsLine fault
job_kept held words signature action fault spelled (inl wrong) = signed_keeps held signature fault (signature_kept words signature action spelled) wrong
job_kept held words signature action fault spelled (inr (signed, (text, read, is), wrong)) = signed_kept held text signed words signature action fault is spelled wrong

-- a trial reads no file
trial_kept : (number modulus bound : ℕ) (fault : Fault) → TrialAnswer number modulus bound (Err fault) → KeepsToItsLine fault
trial_kept number modulus bound fault (inl (found, (reason, is, why), same)) =
    let P : SignatureFault → Type 0 = λ f. KeepsToItsLine (faults.Signature f) in
    same_line fault (faults.Signature found) same (subst P (sym why) (field_keeps reason))
trial_kept number modulus bound fault (inr (field, named, wrong)) =
    let said = trial_said field.k 0 in
    trial_reply_kept (trial_setting field.k modulus) said.names (trial_circuit field.k modulus number) product_terms number bound fault wrong

answer_kept : (words : List Word) (held : Option Files) (fault : Fault) → Answer words held (Err fault) → KeepsToItsLine fault
answer_kept words held fault (inl (same, never)) = same_line fault faults.Words same tt
answer_kept words held fault (inr (Over signature action, spelled, wrong)) = job_kept held words signature action fault spelled wrong
answer_kept words held fault (inr (Trial number modulus terms, spelled, wrong)) = trial_kept number modulus terms fault wrong

-- the line of a fault that may come is one line
pub answers_one_line : (words : List Word) (held : Option Files) (fault : Fault) → Answer words held (Err fault) → IsOneLine (fault_line fault)
answers_one_line words held fault is = one_line fault (answer_kept words held fault is)
