-- When `trial`, `verify` and `compose` are refused, and when they stop; and which commands never stop.
use Rattle.std.proofs.Common.{◌≡◌, ◌∙◌, ap, refl, subst, sym, inl, inr, ℕ, ◌*◌, ◌^◌, List, [], Option, Some, Ok, Err, ◌↔◌, length, arith}
use Rattle.outcome.specs.Outcome.{Within}
use Rattle.lists.specs.laws.OptionLaws.{same_some}
use Rattle.job_io.specs.Shelf.{Files}
use Rattle.net_blif.specs.Design.{ModelValue}
use Rattle.net_words.specs.Binding.{BoundNet}
use Rattle.poly_mixed.specs.Polynomial.{Terms}
use Rattle.stage_model.proofs.SomeStageLemmas.{mix_polynomial}
use Rattle.gf_basis.specs.declared.bases.Basis.{Basis}
use Rattle.cert_check.specs.Verdict.{Check as CheckText}
use Rattle.cert_check.specs.declared.fault.CertFault.{CertFault}
use Rattle.cert_check.specs.declared.fault.CertFault.TheVariants as text
use Rattle.block_compose.specs.Composed.{ComposesIn}
use Rattle.block_compose.specs.declared.fault.ComposeFault.{ComposeFault}
use Rattle.block_compose.specs.declared.fault.ComposeFault.TheVariants as composing
use Rattle.job_words.specs.Command.{Abstract, Action, Bits, Certify, Check, Compose, Eval, Iso, Job, Lift, Make, Over, Same, Table, Trial, Upgrade, Verify, IsSpelled}
use Rattle.job_words.specs.Fault.{fault_status}
use Rattle.job_words.specs.Operands.{Word}
use Rattle.job_words.specs.declared.certificate_fault.CertificateFault.TheVariants as certificate
use Rattle.job_words.specs.declared.composition_fault.CompositionFault.TheVariants as composition
use Rattle.job_words.specs.declared.fault.Fault.{Fault}
use Rattle.job_words.specs.declared.fault.Fault.TheVariants as faults
use Rattle.job_words.specs.declared.stage_fault.StageFault.{StageFault}
use Rattle.job_words.proofs.OneCommandLemmas.{one_job}
use Rattle.job_input.specs.CircuitOf.{CircuitIn}
use Rattle.job_input.specs.FieldOf.{FieldOf, FieldValue}
use Rattle.job_input.specs.HierarchyIn.{HierarchyIn}
use Rattle.job_input.specs.NetlistOf.{word_name}
use Rattle.job_input.specs.SettingValue.{SettingValue}
use Rattle.job_input.specs.SignedIn.{SecondIn}
use Rattle.job_input.specs.TableIn.{TableIn}
use Rattle.make_trial.specs.Trial.{product_terms, trial_circuit, trial_setting}
use Rattle.answer_core.specs.Abstraction.{IsInWords, taken_circuit}
use Rattle.answer_certificates.specs.Certificates.{CertifiedIn, HaveDuals, certificate_fault_of, certificate_labels, sum_fault, sum_name}
use Rattle.answer_composition.specs.Compose.{ListsOf, compose_fault, hierarchy_with, instance_model, stage_called, words_in}
use Rattle.answer_tables.specs.Lift.{table_words}
use Rattle.answer_makers.specs.Trial.{TrialAnswer, TrialOver}
use Rattle.answer_makers.proofs.TrialLemmas.{well_of_trial}
use Rattle.gf_abs.specs.Answer.{ActionAnswer, Answer, JobAnswer}
use Rattle.gf_abs.specs.Refusals.{CertificateGiven, HasNoStages, HierarchyGiven, IsCheckOver, IsCompositionOver, IsRefusedInOrder, IsSumOver, IsTrialOver, IsTrialRefusedInOrder, Refuses}
use Rattle.gf_abs.proofs.RefusalLemmas.{ComesOf, IsSplit, answered, comes, in_order, netlist_two, one_stage, setting_two, stage_three, unrolled_two}

-- ---- a trial

module _ (number modulus bound : ℕ) where
  -- the multiplier over the field of the modulus has a polynomial in words
  trial_words : (field : FieldValue) → FieldOf modulus [] [] (Ok field) → (ts : Terms) × IsInWords (trial_setting field.k modulus) (trial_circuit field.k modulus number) ts
  trial_words field named =
      let k = named.0.degree in
      let P : ℕ → Type 0 = λ d. (ts : Terms) × IsInWords (trial_setting d modulus) (trial_circuit d modulus number) ts in
      let c = taken_circuit (trial_setting k modulus) (trial_circuit k modulus number) in
      subst P (sym (ap (λ (f : FieldValue). f.k) named.1)) (mix_polynomial c (well_of_trial k modulus number named.0.base) (length c.words) (omega arith))

  -- a fault that is no field's is a stage's
  trial_over : (fault : Fault) (field : FieldValue) → FieldOf modulus [] [] (Ok field) → TrialOver field.k modulus number bound (Err fault) → (stage : StageFault) × IsTrialOver number modulus bound stage × (fault ≡ faults.Stage stage)
  trial_over fault field named (inl (inl (stage, over, same))) = (stage, record { field = field; named = named; over = inl over }, same)
  trial_over fault field named (inl (inr (ts, is, never))) = absurd never
  trial_over fault field named (inr (terms, (ts, is, exactly), inl (stage, over, same))) = (stage, record { field = field; named = named; over = inr (is.1, over) }, same)
  trial_over fault field named (inr (terms, is, inr (found, told, never))) = absurd never

  over_trial : (stage : StageFault) (field : FieldValue) → FieldOf modulus [] [] (Ok field) → IsCheckOver bound stage (trial_setting field.k modulus) (product_terms, trial_circuit field.k modulus number) → TrialOver field.k modulus number bound (Err (faults.Stage stage))
  over_trial stage field named (inl over) = inl (inl (stage, over, refl))
  over_trial stage field named (inr (within, over)) =
      let some = trial_words field named in
      inr (length some.0, (some.0, (some.1, within), refl), inl (stage, over, refl))

  module _ (held : Option Files) (words : List Word) (spelled : IsSpelled words (Trial number modulus bound)) where
    trial_comes : (fault : Fault) → Answer words held (Err fault) → TrialAnswer number modulus bound (Err fault)
    trial_comes fault (inl (same, never)) = absurd (never (Trial number modulus bound) spelled)
    trial_comes fault (inr (job, also, wrong)) =
        let P : Job → Type 0 = λ j. JobAnswer held j (Err fault) in
        subst P (one_job words job (Trial number modulus bound) also spelled) wrong

    trial_two : (fault : Fault) → Within faults.Signature (FieldOf modulus [] []) (Err fault) → fault_status fault ≡ 2
    trial_two fault (found, is, same) = ap fault_status same

    refused_of : (fault : Fault) → TrialAnswer number modulus bound (Err fault) → fault_status fault ≡ 2 → Within faults.Signature (FieldOf modulus [] []) (Err fault)
    refused_of fault (inl wrong) two = wrong
    refused_of fault (inr (field, named, wrong)) two = let over = trial_over fault field named wrong in stage_three fault over.0 (Within faults.Signature (FieldOf modulus [] []) (Err fault)) over.2 two

    trial_refused : (fault : Fault) → Within faults.Signature (FieldOf modulus [] []) (Err fault) ↔ (Answer words held (Err fault) × (fault_status fault ≡ 2))
    trial_refused fault = ((λ wrong. (inr (Trial number modulus bound, spelled, inl wrong), trial_two fault wrong)), λ both. refused_of fault (trial_comes fault both.0) both.1)

    stopped_of : (stage : StageFault) → TrialAnswer number modulus bound (Err (faults.Stage stage)) → IsTrialOver number modulus bound stage
    stopped_of stage (inl wrong) = stage_three (faults.Stage stage) stage (IsTrialOver number modulus bound stage) refl (trial_two (faults.Stage stage) wrong)
    stopped_of stage (inr (field, named, wrong)) =
        let over = trial_over (faults.Stage stage) field named wrong in
        let P : StageFault → Type 0 = IsTrialOver number modulus bound in
        subst P (sym (one_stage stage over.0 over.2)) over.1

    trial_stopped : (stage : StageFault) → IsTrialOver number modulus bound stage ↔ Answer words held (Err (faults.Stage stage))
    trial_stopped stage = (
      (λ is. inr (Trial number modulus bound, spelled, inr (is.field, is.named, over_trial stage is.field is.named is.over))),
      λ answer. stopped_of stage (trial_comes (faults.Stage stage) answer),
    )

    pub trial_in_order : IsTrialRefusedInOrder held words number modulus bound
    trial_in_order = record { refused = trial_refused; stopped = trial_stopped }

-- ---- certificates

some_two : (fault other : Fault) → ◌≡◌ {A = Option Fault} (Some other) (Some fault) → fault_status other ≡ 2 → fault_status fault ≡ 2
some_two fault other same two = sym (ap fault_status (same_some other fault same)) ∙ two

text_two : (found : CertFault) (fault : Fault) → certificate_fault_of found ≡ Some fault → fault_status fault ≡ 2
text_two (text.Syntax line) fault same = some_two fault (faults.Certificate (certificate.Syntax line)) same refl
text_two (text.NoSuchNet line) fault same = some_two fault (faults.Certificate (certificate.NoSuchNet line)) same refl
text_two (text.NoSuchBit line) fault same = some_two fault (faults.Certificate (certificate.NoSuchBit line)) same refl
text_two (text.NotDriven line) fault same = some_two fault (faults.Certificate (certificate.NotDriven line)) same refl
text_two (text.NoSuchLet line) fault same = some_two fault (faults.Certificate (certificate.NoSuchLet line)) same refl
text_two text.NoEnd fault same = some_two fault (faults.Certificate certificate.NoEnd) same refl
text_two (text.TooManyTerms line terms) fault same = absurd (cc)
text_two text.OutOfMemory fault same = absurd (cc)

-- what a fault of the text is called with sums
as_sum : (bound : ℕ) (found : CertFault) (fault : Fault) → certificate_fault_of found ≡ Some fault → sum_fault bound found ≡ Some fault
as_sum bound (text.Syntax line) fault same = same
as_sum bound (text.NoSuchNet line) fault same = same
as_sum bound (text.NoSuchBit line) fault same = same
as_sum bound (text.NotDriven line) fault same = same
as_sum bound (text.NoSuchLet line) fault same = same
as_sum bound text.NoEnd fault same = same
as_sum bound (text.TooManyTerms line terms) fault same = absurd (cc)
as_sum bound text.OutOfMemory fault same = absurd (cc)

module _ (held : Option Files) (net file : Word) (bound cycles : ℕ) where
  certified_two : (setting : SettingValue) (fault : Fault) → CertifiedIn held setting.signature net file cycles (Err fault) → fault_status fault ≡ 2
  certified_two setting fault (inl wrong) = netlist_two held setting net fault wrong
  certified_two setting fault (inr (netlist, taken, inl (found, is, same))) = ap fault_status same
  certified_two setting fault (inr (netlist, taken, inr (bytes, read, inl wrong))) = unrolled_two net netlist cycles fault wrong
  certified_two setting fault (inr (netlist, taken, inr (bytes, read, inr (circuit, of, never)))) = absurd never

  certificate_low : (setting : SettingValue) (fault : Fault) → CertificateGiven held net file bound cycles setting (Err fault) → fault_status fault ≡ 2
  certificate_low setting fault (inl wrong) = certified_two setting fault wrong
  certificate_low setting fault (inr (certified, of, wrong)) = text_two wrong.found fault wrong.called

  module _ (setting : SettingValue) (fault : Fault) (certified : BoundNet × List ℕ) (of : CertifiedIn held setting.signature net file cycles (Ok certified)) where
    abbrev Split : Type 0
    Split = IsSplit (CertificateGiven held net file bound cycles) (IsSumOver bound) setting fault

    in_text : (bases : List Basis) → HaveDuals setting certified.0 bases → (found : CertFault) → CheckText setting.k setting.product certified.0 bases (certificate_labels setting certified.0) bound certified.1 (Err found) → certificate_fault_of found ≡ Some fault → Split
    in_text bases duals found is same = inl (inr (certified, of, record { bases = bases; duals = duals; found = found; first = is; called = same }))

    verdict_split : (bases : List Basis) → HaveDuals setting certified.0 bases → (found : CertFault) → CheckText setting.k setting.product certified.0 bases (certificate_labels setting certified.0) bound certified.1 (Err found) → sum_fault bound found ≡ Some fault → Split
    verdict_split bases duals (text.Syntax line) is same = in_text bases duals (text.Syntax line) is same
    verdict_split bases duals (text.NoSuchNet line) is same = in_text bases duals (text.NoSuchNet line) is same
    verdict_split bases duals (text.NoSuchBit line) is same = in_text bases duals (text.NoSuchBit line) is same
    verdict_split bases duals (text.NotDriven line) is same = in_text bases duals (text.NotDriven line) is same
    verdict_split bases duals (text.NoSuchLet line) is same = in_text bases duals (text.NoSuchLet line) is same
    verdict_split bases duals text.NoEnd is same = in_text bases duals text.NoEnd is same
    verdict_split bases duals (text.TooManyTerms line terms) is same =
        let stage : StageFault = record { stage = sum_name line; terms = terms; bound = bound } in
        inr (certified, of, (stage, record { bases = bases; duals = duals; line = line; terms = terms; first = is; called = refl }, sym (same_some (faults.Stage stage) fault same)))
    verdict_split bases duals text.OutOfMemory is same = absurd (cc)

  module _ (setting : SettingValue) (fault : Fault) where
    verify_split : ActionAnswer held setting (Verify net file bound cycles) (Err fault) → IsSplit (CertificateGiven held net file bound cycles) (IsSumOver bound) setting fault
    verify_split (inl wrong) = inl (inl wrong)
    verify_split (inr (certified, of, inl (bases, duals, found, is, same))) = verdict_split setting fault certified of bases duals found is same
    verify_split (inr (certified, of, inr (verdict, is, never))) = absurd never

    verify_joined : IsSplit (CertificateGiven held net file bound cycles) (IsSumOver bound) setting fault → ActionAnswer held setting (Verify net file bound cycles) (Err fault)
    verify_joined (inl (inl wrong)) = inl wrong
    verify_joined (inl (inr (certified, of, wrong))) = inr (certified, of, inl (wrong.bases, wrong.duals, wrong.found, wrong.first, as_sum bound wrong.found fault wrong.called))
    verify_joined (inr (certified, of, (stage, over, same))) =
        inr (certified, of, inl (over.bases, over.duals, text.TooManyTerms over.line over.terms, over.first, ap (λ (s : StageFault). Some (faults.Stage s)) (sym over.called) ∙ sym (ap (λ (f : Fault). Some f) same)))

pub verify_in_order : (held : Option Files) (words : List Word) (signature net file : Word) (bound cycles : ℕ) → IsSpelled words (Over signature (Verify net file bound cycles)) → IsRefusedInOrder held words signature (CertificateGiven held net file bound cycles) (IsSumOver bound)
verify_in_order held words signature net file bound cycles spelled =
    in_order words held signature (Verify net file bound cycles) spelled (CertificateGiven held net file bound cycles) (IsSumOver bound) (certificate_low held net file bound cycles) (verify_split held net file bound cycles) (λ setting fault is. verify_joined held net file bound cycles setting fault)

-- ---- compositions

module _ (held : Option Files) (net : Word) (bound : ℕ) where
  lists_two : (setting : SettingValue) (fault : Fault) → ListsOf setting.k setting.product setting.signature (Err fault) → fault_status fault ≡ 2
  lists_two setting fault (inl (found, is, same)) = ap fault_status same
  lists_two setting fault (inr (top, are, (found, is, same))) = ap fault_status same

  hierarchy_two : (setting : SettingValue) (fault : Fault) → HierarchyIn held setting.signature net (Err fault) → fault_status fault ≡ 2
  hierarchy_two setting fault (inl (found, is, same)) = ap fault_status same
  hierarchy_two setting fault (inr (text, read, (found, is, same))) = ap fault_status same

  hierarchy_low : (setting : SettingValue) (fault : Fault) → HierarchyGiven held net bound setting (Err fault) → fault_status fault ≡ 2
  hierarchy_low setting fault (inl wrong) = hierarchy_two setting fault wrong
  hierarchy_low setting fault (inr (design, taken, inl wrong)) = lists_two setting fault wrong
  hierarchy_low setting fault (inr (design, taken, inr (lists, are, wrong))) = wrong.no_stage

  module _ (setting : SettingValue) (fault : Fault) (design : List ModelValue) (taken : HierarchyIn held setting.signature net (Ok design)) (lists : List (List (List ℕ))) (are : ListsOf setting.k setting.product setting.signature (Ok lists)) where
    abbrev Whole : Type 0
    Whole = IsSplit (HierarchyGiven held net bound) (IsCompositionOver bound) setting fault

    in_structure : (found : ComposeFault) → ComposesIn setting.k setting.product setting.signature (hierarchy_with setting design lists) bound (Err found) → compose_fault setting design bound found ≡ Some fault → fault_status fault ≡ 2 → Whole
    in_structure found is same two = inl (inr (design, taken, inr (lists, are, record { found = found; first = is; called = same; no_stage = two })))

    composed_split : (found : ComposeFault) → ComposesIn setting.k setting.product setting.signature (hierarchy_with setting design lists) bound (Err found) → compose_fault setting design bound found ≡ Some fault → Whole
    composed_split composing.FedInTop is same = in_structure composing.FedInTop is same (some_two fault (faults.Composition composition.FedInTop) same refl)
    composed_split (composing.GateInTop line) is same = in_structure (composing.GateInTop line) is same (some_two fault (faults.Composition (composition.GateInTop line)) same refl)
    composed_split (composing.NoBlock model) is same = in_structure (composing.NoBlock model) is same (some_two fault (faults.Composition (composition.NoBlock model)) same refl)
    composed_split (composing.BlockNet model) is same = in_structure (composing.BlockNet model) is same (some_two fault (faults.Composition (composition.BlockNet model)) same refl)
    composed_split (composing.BlockLatch model) is same = in_structure (composing.BlockLatch model) is same (some_two fault (faults.Composition (composition.BlockLatch model)) same refl)
    composed_split (composing.BlockBind model) is same = in_structure (composing.BlockBind model) is same (some_two fault (faults.Composition (composition.BlockBind model)) same refl)
    composed_split (composing.NotWords instance word) is same =
        in_structure (composing.NotWords instance word) is same
        (some_two fault (faults.Composition (composition.NotWords instance (word_name (words_in setting.signature.blocks (instance_model design instance)) word))) same refl)
    composed_split composing.OutputNotWords is same = in_structure composing.OutputNotWords is same (some_two fault (faults.Composition composition.OutputNotWords) same refl)
    composed_split (composing.InstanceLoop instance) is same = in_structure (composing.InstanceLoop instance) is same (some_two fault (faults.Composition (composition.InstanceLoop instance)) same refl)
    composed_split (composing.TooManyTerms block name terms) is same =
        let stage : StageFault = record { stage = stage_called setting block name; terms = terms; bound = bound } in
        inr ((design, lists), (taken, are), (stage, record { block = block; name = name; terms = terms; first = is; called = refl }, sym (same_some (faults.Stage stage) fault same)))
    composed_split composing.OutOfMemory is same = absurd (cc)

  module _ (setting : SettingValue) (fault : Fault) where
    compose_split : ActionAnswer held setting (Compose net bound) (Err fault) → IsSplit (HierarchyGiven held net bound) (IsCompositionOver bound) setting fault
    compose_split (inl wrong) = inl (inl wrong)
    compose_split (inr (design, taken, inl wrong)) = inl (inr (design, taken, inl wrong))
    compose_split (inr (design, taken, inr (lists, are, inl (found, is, same)))) = composed_split setting fault design taken lists are found is same
    compose_split (inr (design, taken, inr (lists, are, inr (ts, is, never)))) = absurd never

    compose_joined : IsSplit (HierarchyGiven held net bound) (IsCompositionOver bound) setting fault → ActionAnswer held setting (Compose net bound) (Err fault)
    compose_joined (inl (inl wrong)) = inl wrong
    compose_joined (inl (inr (design, taken, inl wrong))) = inr (design, taken, inl wrong)
    compose_joined (inl (inr (design, taken, inr (lists, are, wrong)))) = inr (design, taken, inr (lists, are, inl (wrong.found, wrong.first, wrong.called)))
    compose_joined (inr (given, (taken, are), (stage, over, same))) =
        inr (given.0, taken, inr (given.1, are, inl (composing.TooManyTerms over.block over.name over.terms, over.first, ap (λ (s : StageFault). Some (faults.Stage s)) (sym over.called) ∙ sym (ap (λ (f : Fault). Some f) same))))

pub compose_in_order : (held : Option Files) (words : List Word) (signature net : Word) (bound : ℕ) → IsSpelled words (Over signature (Compose net bound)) → IsRefusedInOrder held words signature (HierarchyGiven held net bound) (IsCompositionOver bound)
compose_in_order held words signature net bound spelled =
    in_order words held signature (Compose net bound) spelled (HierarchyGiven held net bound) (IsCompositionOver bound) (hierarchy_low held net bound) (compose_split held net bound) (λ setting fault is. compose_joined held net bound setting fault)

-- ---- commands without stages

module _ (held : Option Files) (setting : SettingValue) where
  circuit_two : (net : Word) (cycles : ℕ) (fault : Fault) → CircuitIn held setting.signature net cycles (Err fault) → fault_status fault ≡ 2
  circuit_two net cycles fault (inl wrong) = netlist_two held setting net fault wrong
  circuit_two net cycles fault (inr (netlist, taken, wrong)) = unrolled_two net netlist cycles fault wrong

  second_two : (file : Word) (fault : Fault) → SecondIn held file (Err fault) → fault_status fault ≡ 2
  second_two file fault (inl (inl (found, is, same))) = ap fault_status same
  second_two file fault (inl (inr (text, read, (found, is, same)))) = ap fault_status same
  second_two file fault (inr (signed, read, inl (found, is, same))) = ap fault_status same
  second_two file fault (inr (signed, read, inr (second, are, never))) = absurd never

  table_two : (k n : ℕ) (file : Word) (fault : Fault) → TableIn held k n file (Err fault) → fault_status fault ≡ 2
  table_two k n file fault (inl (found, is, same)) = ap fault_status same
  table_two k n file fault (inr (text, read, (found, is, same))) = ap fault_status same

  action_two : (action : Action) (fault : Fault) → HasNoStages action → ActionAnswer held setting action (Err fault) → fault_status fault ≡ 2
  action_two (Eval net values cycles) fault none (inl wrong) = netlist_two held setting net fault wrong
  action_two (Eval net values cycles) fault none (inr (netlist, taken, inl (found, is, same))) = ap fault_status same
  action_two (Eval net values cycles) fault none (inr (netlist, taken, inr (xs, are, inl wrong))) = unrolled_two net netlist cycles fault wrong
  action_two (Eval net values cycles) fault none (inr (netlist, taken, inr (xs, are, inr (circuit, of, never)))) = absurd never
  action_two (Iso other) fault none (inl wrong) = second_two other fault wrong
  action_two (Iso other) fault none (inr (second, taken, wrong)) = ap fault_status wrong.0
  action_two (Lift table) fault none (inl wrong) = ap fault_status wrong.0
  action_two (Lift table) fault none (inr (small, fits, inl wrong)) = table_two setting.k (2 ^ (setting.k * table_words setting)) table fault wrong
  action_two (Lift table) fault none (inr (small, fits, inr (values, taken, never))) = absurd never
  action_two (Table net cycles) fault none (inl wrong) = ap fault_status wrong.0
  action_two (Table net cycles) fault none (inr (small, fits, inl wrong)) = circuit_two net cycles fault wrong
  action_two (Table net cycles) fault none (inr (small, fits, inr (circuit, taken, never))) = absurd never
  action_two (Upgrade net file cycles) fault none (inl wrong) = certified_two held net file 0 cycles setting fault wrong
  action_two (Upgrade net file cycles) fault none (inr (certified, taken, inl (found, is, same))) = text_two found fault same
  action_two (Upgrade net file cycles) fault none (inr (certified, taken, inr (t, of, never))) = absurd never
  action_two (Make kind) fault none (inl wrong) = ap fault_status wrong.0
  action_two (Make kind) fault none (inr (net, made, never)) = absurd never
  action_two (Bits net terms cycles simple) fault none wrong = absurd none
  action_two (Abstract net terms cycles simple) fault none wrong = absurd none
  action_two (Check net file terms cycles simple) fault none wrong = absurd none
  action_two (Same net other terms cycles simple) fault none wrong = absurd none
  action_two (Certify net terms cycles) fault none wrong = absurd none
  action_two (Verify net file terms cycles) fault none wrong = absurd none
  action_two (Compose net terms) fault none wrong = absurd none

module _ (held : Option Files) (words : List Word) (signature : Word) (action : Action) (spelled : IsSpelled words (Over signature action)) (fault : Fault) where
  pub action_refused : Refuses held signature (λ setting. ActionAnswer held setting action) fault ↔ Answer words held (Err fault)
  action_refused = ((λ wrong. answered words held signature action spelled fault wrong), λ answer. comes words held signature action spelled fault answer)

  two_of : HasNoStages action → ComesOf words held signature action spelled fault → fault_status fault ≡ 2
  two_of none (inl wrong) = setting_two held signature fault wrong
  two_of none (inr (setting, is, wrong)) = action_two held setting action fault none wrong

  pub never_stops : HasNoStages action → Answer words held (Err fault) → fault_status fault ≡ 2
  never_stops none answer = two_of none (comes words held signature action spelled fault answer)
