-- When a command is refused, and when it stops at a stage, out of the steps of its answer.
use Rattle.std.proofs.Common.{◌≡◌, ◌⊎◌, ap, refl, subst, sym, inl, inr, ℕ, Bool, List, Option, Ok, Err, ◌↔◌, length, arith}
use Rattle.outcome.specs.Outcome.{Outcome}
use Rattle.job_io.specs.Shelf.{Files}
use Rattle.net_words.specs.Binding.{BoundNet}
use Rattle.poly_mixed.specs.Polynomial.{Terms}
use Rattle.spec_expand.specs.Specification.{SpecTerms}
use Rattle.stage_model.proofs.SomeStageLemmas.{mix_polynomial}
use Rattle.job_words.specs.Command.{Abstract, Action, Bits, Certify, Check, Job, Over, Same, IsSpelled}
use Rattle.job_words.specs.Fault.{fault_status}
use Rattle.job_words.specs.Operands.{Word}
use Rattle.job_words.specs.declared.fault.Fault.{Fault}
use Rattle.job_words.specs.declared.fault.Fault.TheVariants as faults
use Rattle.job_words.specs.declared.stage_fault.StageFault.{StageFault}
use Rattle.job_words.proofs.OneCommandLemmas.{one_job}
use Rattle.job_input.specs.CircuitOf.{UnrolledIn}
use Rattle.job_input.specs.Labelling.{labels_of}
use Rattle.job_input.specs.NetlistOf.{NetlistIn, by_ending}
use Rattle.job_input.specs.SettingOf.{SettingOf}
use Rattle.job_input.specs.SettingValue.{SettingValue}
use Rattle.job_input.specs.SpecificationIn.{SpecificationIn}
use Rattle.answer_core.specs.Abstraction.{IsInWords, taken_circuit}
use Rattle.answer_core.specs.Reply.{polynomial_line}
use Rattle.answer_core.specs.Simpler.{SimplerUnrolledIn}
use Rattle.answer_polynomials.proofs.EqualLemmas.{well}
use Rattle.gf_abs.specs.Answer.{ActionAnswer, Answer, JobAnswer}
use Rattle.gf_abs.specs.Refusals.{BothGiven, CircuitGiven, IsAbstractOver, IsBitsOver, IsCertifyOver, IsCheckOver, IsRefusedInOrder, IsSameOver, Refuses, SettingIn, SimplerGiven, SpecifiedGiven, Stops}

-- ---- statuses

-- a stage has status 3 alone
pub stage_three : (fault : Fault) (stage : StageFault) (C : Type 0) → fault ≡ faults.Stage stage → fault_status fault ≡ 2 → C
stage_three fault stage C same two = let three : fault_status fault ≡ 3 = ap fault_status same in absurd (omega (arith, two, three))

pub one_stage : (a b : StageFault) → faults.Stage a ≡ faults.Stage b → a ≡ b
one_stage a b same = cc

pub stage_of : (fault : Fault) → fault_status fault ≡ 3 → (stage : StageFault) × (fault ≡ faults.Stage stage)
stage_of (faults.Stage stage) three = (stage, refl)
stage_of fault three = absurd (omega (arith, three))

module _ (held : Option Files) where
  pub setting_two : (signature : Word) (fault : Fault) → SettingIn held signature (Err fault) → fault_status fault ≡ 2
  setting_two signature fault (inl (inl (found, is, same))) = ap fault_status same
  setting_two signature fault (inl (inr (text, read, (found, is, same)))) = ap fault_status same
  setting_two signature fault (inr (signed, read, (found, is, same))) = ap fault_status same

  module _ (setting : SettingValue) where
    pub netlist_two : (net : Word) (fault : Fault) → NetlistIn held setting.signature net (Err fault) → fault_status fault ≡ 2
    netlist_two net fault (inl (found, is, same)) = ap fault_status same
    netlist_two net fault (inr (text, read, (found, is, same))) = ap fault_status same

    said_two : (file : Word) (fault : Fault) → SpecificationIn held (labels_of setting.k setting.signature.words) setting.k setting.product file (Err fault) → fault_status fault ≡ 2
    said_two file fault (inl (found, is, same)) = ap fault_status same
    said_two file fault (inr (text, read, (found, is, same))) = ap fault_status same

pub unrolled_two : (net : Word) (netlist : BoundNet) (cycles : ℕ) (fault : Fault) → UnrolledIn net netlist cycles (Err fault) → fault_status fault ≡ 2
unrolled_two net netlist cycles fault (found, is, same) = ap fault_status same

pub simpler_two : (net : Word) (netlist : BoundNet) (cycles : ℕ) (simple : Bool) (fault : Fault) → SimplerUnrolledIn net netlist cycles simple (Err fault) → fault_status fault ≡ 2
simpler_two net netlist cycles simple fault (inl wrong) = unrolled_two net netlist cycles fault wrong
simpler_two net netlist cycles simple fault (inr (circuit, of, never)) = absurd never

-- ---- the steps of an answer

module _ (words : List Word) (held : Option Files) (signature : Word) (action : Action) (spelled : IsSpelled words (Over signature action)) (fault : Fault) where
  -- the setting is refused, or the command over it
  abbrev pub ComesOf : Type 0
  ComesOf = SettingIn held signature (Err fault) ⊎ ((setting : SettingValue) × SettingIn held signature (Ok setting) × ActionAnswer held setting action (Err fault))

  job_comes : JobAnswer held (Over signature action) (Err fault) → ComesOf
  job_comes (inl wrong) = inl (inl wrong)
  job_comes (inr (signed, read, inl wrong)) = inl (inr (signed, read, wrong))
  job_comes (inr (signed, read, inr (setting, are, wrong))) = inr (setting, (signed, read, are), wrong)

  pub comes : Answer words held (Err fault) → ComesOf
  comes (inl (same, never)) = absurd (never (Over signature action) spelled)
  comes (inr (job, also, wrong)) =
      let P : Job → Type 0 = λ j. JobAnswer held j (Err fault) in
      job_comes (subst P (one_job words job (Over signature action) also spelled) wrong)

  pub answered : ComesOf → Answer words held (Err fault)
  answered (inl (inl wrong)) = inr (Over signature action, spelled, inl wrong)
  answered (inl (inr (signed, read, wrong))) = inr (Over signature action, spelled, inr (signed, read, inl wrong))
  answered (inr (setting, (signed, read, are), wrong)) = inr (Over signature action, spelled, inr (signed, read, inr (setting, are, wrong)))

-- ---- a command that reads this after its setting, and then has stages

-- what it reads is refused, or a stage is over the bound
abbrev pub IsSplit : {G : Type 0} → (SettingValue → Outcome Fault G) → (StageFault → SettingValue → G → Type 0) → SettingValue → Fault → Type 0
IsSplit {G} given IsFirst setting fault = given setting (Err fault) ⊎ ((g : G) × given setting (Ok g) × ((stage : StageFault) × IsFirst stage setting g × (fault ≡ faults.Stage stage)))

module _ {G : Type 0} (words : List Word) (held : Option Files) (signature : Word) (action : Action) (spelled : IsSpelled words (Over signature action)) (given : SettingValue → Outcome Fault G) (IsFirst : StageFault → SettingValue → G → Type 0)
    (low : (setting : SettingValue) (fault : Fault) → given setting (Err fault) → fault_status fault ≡ 2)
    (split : (setting : SettingValue) (fault : Fault) → ActionAnswer held setting action (Err fault) → IsSplit given IsFirst setting fault)
    (joined : (setting : SettingValue) (fault : Fault) → SettingIn held signature (Ok setting) → IsSplit given IsFirst setting fault → ActionAnswer held setting action (Err fault)) where
  refused_by : (fault : Fault) → Refuses held signature given fault → Answer words held (Err fault) × (fault_status fault ≡ 2)
  refused_by fault (inl wrong) = (answered words held signature action spelled fault (inl wrong), setting_two held signature fault wrong)
  refused_by fault (inr (setting, is, wrong)) = (answered words held signature action spelled fault (inr (setting, is, joined setting fault is (inl wrong))), low setting fault wrong)

  by_split : (fault : Fault) (setting : SettingValue) → SettingIn held signature (Ok setting) → IsSplit given IsFirst setting fault → fault_status fault ≡ 2 → Refuses held signature given fault
  by_split fault setting is (inl wrong) two = inr (setting, is, wrong)
  by_split fault setting is (inr (g, of, (stage, over, same))) two = stage_three fault stage (Refuses held signature given fault) same two

  refuses_of : (fault : Fault) → ComesOf words held signature action spelled fault → fault_status fault ≡ 2 → Refuses held signature given fault
  refuses_of fault (inl wrong) two = inl wrong
  refuses_of fault (inr (setting, is, wrong)) two = by_split fault setting is (split setting fault wrong) two

  refused : (fault : Fault) → Refuses held signature given fault ↔ (Answer words held (Err fault) × (fault_status fault ≡ 2))
  refused fault = (refused_by fault, λ both. refuses_of fault (comes words held signature action spelled fault both.0) both.1)

  stops_by : (stage : StageFault) → Stops held signature given (IsFirst stage) → Answer words held (Err (faults.Stage stage))
  stops_by stage stops = answered words held signature action spelled (faults.Stage stage) (inr (stops.setting, stops.setting_in, joined stops.setting (faults.Stage stage) stops.setting_in (inr (stops.value, stops.value_in, (stage, stops.over, refl)))))

  stop_split : (stage : StageFault) (setting : SettingValue) → SettingIn held signature (Ok setting) → IsSplit given IsFirst setting (faults.Stage stage) → Stops held signature given (IsFirst stage)
  stop_split stage setting is (inl wrong) = stage_three (faults.Stage stage) stage (Stops held signature given (IsFirst stage)) refl (low setting (faults.Stage stage) wrong)
  stop_split stage setting is (inr (g, of, (other, over, same))) =
      let P : StageFault → Type 0 = λ s. IsFirst s setting g in
      record { setting = setting; setting_in = is; value = g; value_in = of; over = subst P (sym (one_stage stage other same)) over }

  stops_of : (stage : StageFault) → ComesOf words held signature action spelled (faults.Stage stage) → Stops held signature given (IsFirst stage)
  stops_of stage (inl wrong) = stage_three (faults.Stage stage) stage (Stops held signature given (IsFirst stage)) refl (setting_two held signature (faults.Stage stage) wrong)
  stops_of stage (inr (setting, is, wrong)) = stop_split stage setting is (split setting (faults.Stage stage) wrong)

  stopped : (stage : StageFault) → Stops held signature given (IsFirst stage) ↔ Answer words held (Err (faults.Stage stage))
  stopped stage = (stops_by stage, λ answer. stops_of stage (comes words held signature action spelled (faults.Stage stage) answer))

  pub in_order : IsRefusedInOrder held words signature given IsFirst
  in_order = record { refused = refused; stopped = stopped }

-- ---- over one circuit

module _ (held : Option Files) (net : Word) (cycles : ℕ) where
  circuit_low : (setting : SettingValue) (fault : Fault) → CircuitGiven held net cycles setting (Err fault) → fault_status fault ≡ 2
  circuit_low setting fault (inl wrong) = netlist_two held setting net fault wrong
  circuit_low setting fault (inr (netlist, taken, wrong)) = unrolled_two net netlist cycles fault wrong

  module _ (bound : ℕ) (setting : SettingValue) (fault : Fault) where
    certify_split : ActionAnswer held setting (Certify net bound cycles) (Err fault) → IsSplit (CircuitGiven held net cycles) (IsCertifyOver bound) setting fault
    certify_split (inl wrong) = inl wrong
    certify_split (inr (circuit, of, inl stops)) = inr (circuit, of, stops)
    certify_split (inr (circuit, of, inr (text, is, never))) = absurd never

    certify_joined : IsSplit (CircuitGiven held net cycles) (IsCertifyOver bound) setting fault → ActionAnswer held setting (Certify net bound cycles) (Err fault)
    certify_joined (inl wrong) = inl wrong
    certify_joined (inr (circuit, of, stops)) = inr (circuit, of, inl stops)

-- or a simpler one
module _ (held : Option Files) (net : Word) (cycles : ℕ) where
  simpler_low : (simple : Bool) (setting : SettingValue) (fault : Fault) → SimplerGiven held net cycles simple setting (Err fault) → fault_status fault ≡ 2
  simpler_low simple setting fault (inl wrong) = circuit_low held net cycles setting fault wrong
  simpler_low simple setting fault (inr (circuit, of, never)) = absurd never

  module _ (simple : Bool) (bound : ℕ) (setting : SettingValue) (fault : Fault) where
    bits_split : ActionAnswer held setting (Bits net bound cycles simple) (Err fault) → IsSplit (SimplerGiven held net cycles simple) (IsBitsOver bound) setting fault
    bits_split (inl wrong) = inl wrong
    bits_split (inr (circuit, of, inl stops)) = inr (circuit, of, stops)
    bits_split (inr (circuit, of, inr (ts, is, never))) = absurd never

    bits_joined : IsSplit (SimplerGiven held net cycles simple) (IsBitsOver bound) setting fault → ActionAnswer held setting (Bits net bound cycles simple) (Err fault)
    bits_joined (inl wrong) = inl wrong
    bits_joined (inr (circuit, of, stops)) = inr (circuit, of, inl stops)

    abstract_split : ActionAnswer held setting (Abstract net bound cycles simple) (Err fault) → IsSplit (SimplerGiven held net cycles simple) (IsAbstractOver bound) setting fault
    abstract_split (inl wrong) = inl wrong
    abstract_split (inr (circuit, of, inl stops)) = inr (circuit, of, stops)
    abstract_split (inr (circuit, of, inr (ts, is, never))) = absurd never

    abstract_joined : IsSplit (SimplerGiven held net cycles simple) (IsAbstractOver bound) setting fault → ActionAnswer held setting (Abstract net bound cycles simple) (Err fault)
    abstract_joined (inl wrong) = inl wrong
    abstract_joined (inr (circuit, of, stops)) = inr (circuit, of, inl stops)

module _ (held : Option Files) (words : List Word) (signature net : Word) (bound cycles : ℕ) where
  pub bits_in_order : (simple : Bool) → IsSpelled words (Over signature (Bits net bound cycles simple)) → IsRefusedInOrder held words signature (SimplerGiven held net cycles simple) (IsBitsOver bound)
  bits_in_order simple spelled =
      in_order words held signature (Bits net bound cycles simple) spelled (SimplerGiven held net cycles simple) (IsBitsOver bound) (simpler_low held net cycles simple) (bits_split held net cycles simple bound) (λ setting fault is. bits_joined held net cycles simple bound setting fault)

  pub abstract_in_order : (simple : Bool) → IsSpelled words (Over signature (Abstract net bound cycles simple)) → IsRefusedInOrder held words signature (SimplerGiven held net cycles simple) (IsAbstractOver bound)
  abstract_in_order simple spelled =
      in_order words held signature (Abstract net bound cycles simple) spelled (SimplerGiven held net cycles simple) (IsAbstractOver bound) (simpler_low held net cycles simple) (abstract_split held net cycles simple bound) (λ setting fault is. abstract_joined held net cycles simple bound setting fault)

  pub certify_in_order : IsSpelled words (Over signature (Certify net bound cycles)) → IsRefusedInOrder held words signature (CircuitGiven held net cycles) (IsCertifyOver bound)
  certify_in_order spelled =
      in_order words held signature (Certify net bound cycles) spelled (CircuitGiven held net cycles) (IsCertifyOver bound) (circuit_low held net cycles) (certify_split held net cycles bound) (λ setting fault is. certify_joined held net cycles bound setting fault)

-- ---- over two netlists

module _ (held : Option Files) (net other : Word) (cycles : ℕ) (simple : Bool) where
  both_low : (setting : SettingValue) (fault : Fault) → BothGiven held net other cycles simple setting (Err fault) → fault_status fault ≡ 2
  both_low setting fault (inl wrong) = netlist_two held setting net fault wrong
  both_low setting fault (inr (netlist, taken, inl wrong)) = netlist_two held setting other fault wrong
  both_low setting fault (inr (netlist, taken, inr (second, more, inl wrong))) = simpler_two net netlist cycles simple fault wrong
  both_low setting fault (inr (netlist, taken, inr (second, more, inr (circuit, of, inl wrong)))) = simpler_two other second cycles simple fault wrong
  both_low setting fault (inr (netlist, taken, inr (second, more, inr (circuit, of, inr (beside, also, never))))) = absurd never

  module _ (bound : ℕ) (setting : SettingValue) (fault : Fault) where
    same_split : ActionAnswer held setting (Same net other bound cycles simple) (Err fault) → IsSplit (BothGiven held net other cycles simple) (IsSameOver bound) setting fault
    same_split (inl wrong) = inl (inl wrong)
    same_split (inr (netlist, taken, inl wrong)) = inl (inr (netlist, taken, inl wrong))
    same_split (inr (netlist, taken, inr (second, more, inl wrong))) = inl (inr (netlist, taken, inr (second, more, inl wrong)))
    same_split (inr (netlist, taken, inr (second, more, inr (circuit, of, inl wrong)))) = inl (inr (netlist, taken, inr (second, more, inr (circuit, of, inl wrong))))
    same_split (inr (netlist, taken, inr (second, more, inr (circuit, of, inr (beside, also, inl stops))))) = inr ((circuit, beside), (netlist, taken, (second, more, (circuit, of, (beside, also, refl)))), stops)
    same_split (inr (netlist, taken, inr (second, more, inr (circuit, of, inr (beside, also, inr (found, is, never)))))) = absurd never

    same_joined : IsSplit (BothGiven held net other cycles simple) (IsSameOver bound) setting fault → ActionAnswer held setting (Same net other bound cycles simple) (Err fault)
    same_joined (inl (inl wrong)) = inl wrong
    same_joined (inl (inr (netlist, taken, inl wrong))) = inr (netlist, taken, inl wrong)
    same_joined (inl (inr (netlist, taken, inr (second, more, inl wrong)))) = inr (netlist, taken, inr (second, more, inl wrong))
    same_joined (inl (inr (netlist, taken, inr (second, more, inr (circuit, of, inl wrong))))) = inr (netlist, taken, inr (second, more, inr (circuit, of, inl wrong)))
    same_joined (inl (inr (netlist, taken, inr (second, more, inr (circuit, of, inr (beside, also, never)))))) = absurd never
    same_joined (inr (both, (netlist, taken, (second, more, (circuit, of, (beside, also, same)))), (stage, over, is))) =
        let P : BoundNet × BoundNet → Type 0 = λ b. IsSameOver bound stage setting b in
        inr (netlist, taken, inr (second, more, inr (circuit, of, inr (beside, also, inl (stage, subst P same over, is)))))

pub same_in_order : (held : Option Files) (words : List Word) (signature net other : Word) (bound cycles : ℕ) (simple : Bool) → IsSpelled words (Over signature (Same net other bound cycles simple)) → IsRefusedInOrder held words signature (BothGiven held net other cycles simple) (IsSameOver bound)
same_in_order held words signature net other bound cycles simple spelled =
    in_order words held signature (Same net other bound cycles simple) spelled (BothGiven held net other cycles simple) (IsSameOver bound) (both_low held net other cycles simple) (same_split held net other cycles simple bound) (λ setting fault is. same_joined held net other cycles simple bound setting fault)

-- ---- over a netlist and a specification

module _ (held : Option Files) (net specification : Word) (cycles : ℕ) (simple : Bool) where
  specified_low : (setting : SettingValue) (fault : Fault) → SpecifiedGiven held net specification cycles simple setting (Err fault) → fault_status fault ≡ 2
  specified_low setting fault (inl wrong) = netlist_two held setting net fault wrong
  specified_low setting fault (inr (netlist, taken, inl wrong)) = said_two held setting specification fault wrong
  specified_low setting fault (inr (netlist, taken, inr (spec, said, inl wrong))) = simpler_two net netlist cycles simple fault wrong
  specified_low setting fault (inr (netlist, taken, inr (spec, said, inr (circuit, of, never)))) = absurd never

  -- the polynomial in words of the circuit of a signature and a netlist
  some_words : (signature : Word) (setting : SettingValue) (netlist circuit : BoundNet) → SettingIn held signature (Ok setting) → NetlistIn held setting.signature net (Ok netlist) → SimplerUnrolledIn net netlist cycles simple (Ok circuit) → (ts : Terms) × IsInWords setting circuit ts
  some_words signature setting netlist circuit (signed, (text, read, is), are) (bytes, read', taken) (whole, of, made) =
      let setting_is : SettingOf text (Ok setting) = (signed, is, are) in
      mix_polynomial (taken_circuit setting circuit) (well setting circuit (record { signature = text; is_setting = setting_is; netlist = by_ending net bytes; cycles = cycles; simple = simple; is_circuit = (whole, (netlist, taken, of), made) })) (length (taken_circuit setting circuit).words) (omega arith)

  module _ (bound : ℕ) (setting : SettingValue) (fault : Fault) where
    check_split : ActionAnswer held setting (Check net specification bound cycles simple) (Err fault) → IsSplit (SpecifiedGiven held net specification cycles simple) (IsCheckOver bound) setting fault
    check_split (inl wrong) = inl (inl wrong)
    check_split (inr (netlist, taken, inl wrong)) = inl (inr (netlist, taken, inl wrong))
    check_split (inr (netlist, taken, inr (spec, said, inl wrong))) = inl (inr (netlist, taken, inr (spec, said, inl wrong)))
    check_split (inr (netlist, taken, inr (spec, said, inr (circuit, of, inl (inl (stage, over, same)))))) = inr ((spec, circuit), (netlist, taken, (spec, said, (circuit, of, refl))), (stage, inl over, same))
    check_split (inr (netlist, taken, inr (spec, said, inr (circuit, of, inl (inr (ts, is, never)))))) = absurd never
    check_split (inr (netlist, taken, inr (spec, said, inr (circuit, of, inr (line, (ts, is, exactly), inl (stage, over, same)))))) = inr ((spec, circuit), (netlist, taken, (spec, said, (circuit, of, refl))), (stage, inr (is.1, over), same))
    check_split (inr (netlist, taken, inr (spec, said, inr (circuit, of, inr (line, is, inr (found, judged, never)))))) = absurd never

    over_joined : (signature : Word) → SettingIn held signature (Ok setting) → (netlist : BoundNet) → NetlistIn held setting.signature net (Ok netlist) → (spec : SpecTerms) → SpecificationIn held (labels_of setting.k setting.signature.words) setting.k setting.product specification (Ok spec)
        → (circuit : BoundNet) → SimplerUnrolledIn net netlist cycles simple (Ok circuit) → (stage : StageFault) → IsCheckOver bound stage setting (spec, circuit) → fault ≡ faults.Stage stage → ActionAnswer held setting (Check net specification bound cycles simple) (Err fault)
    over_joined signature is netlist taken spec said circuit of stage (inl over) same = inr (netlist, taken, inr (spec, said, inr (circuit, of, inl (inl (stage, over, same)))))
    over_joined signature is netlist taken spec said circuit of stage (inr (within, over)) same =
        let some = some_words signature setting netlist circuit is taken of in
        inr (netlist, taken, inr (spec, said, inr (circuit, of, inr (polynomial_line setting some.0, (some.0, (some.1, within), refl), inl (stage, over, same)))))

    check_joined : (signature : Word) → SettingIn held signature (Ok setting) → IsSplit (SpecifiedGiven held net specification cycles simple) (IsCheckOver bound) setting fault → ActionAnswer held setting (Check net specification bound cycles simple) (Err fault)
    check_joined signature is (inl (inl wrong)) = inl wrong
    check_joined signature is (inl (inr (netlist, taken, inl wrong))) = inr (netlist, taken, inl wrong)
    check_joined signature is (inl (inr (netlist, taken, inr (spec, said, inl wrong)))) = inr (netlist, taken, inr (spec, said, inl wrong))
    check_joined signature is (inl (inr (netlist, taken, inr (spec, said, inr (circuit, of, never))))) = absurd never
    check_joined signature is (inr (given, (netlist, taken, (spec, said, (circuit, of, same))), (stage, over, stops))) =
        let P : SpecTerms × BoundNet → Type 0 = λ g. IsCheckOver bound stage setting g in
        over_joined signature is netlist taken spec said circuit of stage (subst P same over) stops

pub check_in_order : (held : Option Files) (words : List Word) (signature net specification : Word) (bound cycles : ℕ) (simple : Bool) → IsSpelled words (Over signature (Check net specification bound cycles simple)) → IsRefusedInOrder held words signature (SpecifiedGiven held net specification cycles simple) (IsCheckOver bound)
check_in_order held words signature net specification bound cycles simple spelled =
    in_order words held signature (Check net specification bound cycles simple) spelled (SpecifiedGiven held net specification cycles simple) (IsCheckOver bound) (specified_low held net specification cycles simple) (check_split held net specification cycles simple bound)
    (λ setting fault is. check_joined held net specification cycles simple bound setting fault signature is)
