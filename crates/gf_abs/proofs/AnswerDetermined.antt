-- At most one answer comes of the words, where the shelf tells what it holds.
use Rattle.std.proofs.Common.{◌≡◌, ◌⊎◌, ◌∙◌, ap, sym, subst, inl, inr, ℕ, Bool, ◌*◌, ◌^◌, ◌<◌, List, length, Option, None, Some, Ok, Err, arith}
use Rattle.std.specs.FinMap.{get}
use Rattle.lists.specs.laws.OptionLaws.{same_some}
use Rattle.outcome.proofs.DeterminedLemmas.{determined_exactly}
use Rattle.outcome.specs.Outcome.{Determined, Exactly, Within}
use Rattle.outcome.proofs.DeterminedLemmas.{determined_after, determined_within}
use Rattle.job_io.specs.Shelf.{Files}
use Rattle.job_words.specs.declared.fault.Fault.TheVariants.{File, Signature, SecondSignature, Netlist, Specification, Value}
use Rattle.job_words.specs.declared.fault.Fault.TheVariants as faults
use Rattle.job_words.specs.declared.file_fault.FileFault.{FileFault}
use Rattle.job_words.specs.declared.file_fault.FileFault.TheVariants.{Absent, TooLong}
use Rattle.job_words.specs.Operands.{Word}
use Rattle.job_words.specs.Command.{Action, Bits, Abstract, Check, Same, Eval, Iso, Lift, Table, Certify, Verify, Upgrade, Make, Compose, Job, Over, Trial, IsSpelled}
use Rattle.job_words.proofs.OneCommandLemmas.{one_job}
use Rattle.job_input.specs.File.{Read}
use Rattle.job_input.specs.Labelling.{labels_of}
use Rattle.job_input.specs.CircuitOf.{CircuitIn, CircuitOf, UnrolledIn}
use Rattle.job_input.specs.HierarchyIn.{HierarchyIn, HierarchyOf}
use Rattle.job_input.specs.NetlistOf.{BoundNetOf, NetlistIn, NetlistText, by_ending}
use Rattle.job_input.specs.SettingOf.{SignedOf, SignedValue, SettingWith}
use Rattle.job_input.specs.SettingSound.{IsSoundSetting}
use Rattle.job_input.specs.SettingValue.{SettingValue}
use Rattle.job_input.specs.SignedIn.{SecondIn, SecondOf, SecondSignedIn, SignedIn}
use Rattle.job_input.specs.SpecificationIn.{SpecificationOf, SpecificationIn}
use Rattle.job_input.specs.TableIn.{TableIn, TableOf}
use Rattle.net_words.specs.Binding.{BoundNet}
use Rattle.job_input.proofs.CycleLemmas.{circuit_determined}
use Rattle.job_input.proofs.NetlistDetermined.{netlist_determined}
use Rattle.job_input.proofs.SettingDetermined.{signed_determined, with_determined}
use Rattle.job_input.proofs.SettingSoundLemmas.{setting_sound}
use Rattle.job_input.proofs.SpecificationDetermined.{specification_determined}
use Rattle.job_input.proofs.TableDetermined.{table_determined as table_text_determined}
use Rattle.answer_core.specs.Simpler.{SimplerIn, SimplerOf, SimplerUnrolledIn}
use Rattle.answer_core.proofs.SimplerLemmas.{one_simpler}
use Rattle.answer_core.proofs.TakenLemmas.{one_cycle}
use Rattle.gf_abs.specs.Answer.{Spelled, ActionAnswer, SignedAnswer, JobAnswer, Answer}
use Rattle.answer_polynomials.specs.Bits.{BitsReply}
use Rattle.answer_polynomials.specs.Abstract.{AbstractReply}
use Rattle.answer_polynomials.specs.Check.{CheckReply, CheckUnrolled, CheckOver}
use Rattle.answer_composition.specs.Compose.{ComposeAnswer, ComposeOver}
use Rattle.answer_polynomials.specs.Eval.{EvalAt, EvalOver, EvalReply}
use Rattle.answer_tables.specs.Iso.{IsoReply}
use Rattle.answer_tables.specs.Lift.{LiftOver, LiftReply, SmallEnough, table_words}
use Rattle.answer_tables.specs.Table.{TableOver, TableReply}
use Rattle.answer_certificates.specs.Certificates.{CertifiedBy, CertifiedIn, CertifiedOver}
use Rattle.answer_certificates.specs.Certify.{CertifyReply}
use Rattle.answer_certificates.specs.Upgrade.{UpgradeReply}
use Rattle.answer_certificates.specs.Verify.{VerifyReply}
use Rattle.answer_polynomials.specs.Same.{SameReply, SameSecond, SameUnrolled, SameBeside}
use Rattle.answer_polynomials.specs.Values.{ValuesOf}
use Rattle.answer_composition.proofs.BlockSettingLemmas.{setting_blocks, CanBindBlocks}
use Rattle.answer_certificates.proofs.CertificateDetermined.{upgrade_determined, verify_determined}
use Rattle.answer_certificates.proofs.CertifyLemmas.{certify_determined}
use Rattle.answer_polynomials.proofs.CheckDetermined.{check_determined}
use Rattle.answer_composition.proofs.ComposeDetermined.{compose_determined, hierarchy_determined}
use Rattle.answer_composition.proofs.ComposeLineLemmas.{hierarchy_right}
use Rattle.answer_polynomials.proofs.EvalDetermined.{eval_determined, values_determined}
use Rattle.answer_tables.proofs.IsoLemmas.{iso_determined}
use Rattle.answer_makers.proofs.MakeLemmas.{make_determined}
use Rattle.answer_makers.proofs.TrialLemmas.{trial_determined}
use Rattle.answer_tables.proofs.TableLemmas.{lift_determined, small_determined, table_determined}
use Rattle.answer_polynomials.proofs.ReplyDetermined.{bits_determined, abstract_determined}
use Rattle.answer_polynomials.proofs.SameDetermined.{same_determined}

not_none : {A : Type 0} (a : A) (C : Type 0) → ◌≡◌ {A = Option A} (Some a) None → C
not_none a C e = absurd (cc)

-- ---- files

module _ (files : Files) (name : Word) where
  read_fault : (fault : FileFault) → Read (Some files) name (Err fault) → ((fault ≡ Absent name) × (get files name ≡ None)) ⊎ ((fault ≡ TooLong name) × (bytes : List ℕ) × (get files name ≡ Some bytes) × (67108864 < length bytes))
  read_fault (Absent file) may = inl (ap Absent may.0, may.1)
  read_fault (TooLong file) may = inr (ap TooLong may.0, may.1.0, may.1.1, may.1.2)

  no_fault : (bytes : List ℕ) (fault : FileFault) (C : Type 0) → Read (Some files) name (Ok bytes) → Read (Some files) name (Err fault) → C
  no_fault bytes fault C held may = elim (read_fault fault may) [
    | inl absent ↦ not_none bytes C (sym held.0 ∙ absent.1)
    | inr long ↦ (let same : bytes ≡ long.1 = same_some bytes long.1 (sym held.0 ∙ long.2) in let size : length bytes ≡ length long.1 = ap length same in let small = held.1 in let more = long.3 in absurd (omega arith))
  ]

  pub read_determined : Determined (Read (Some files) name)
  read_determined (Ok a) (Ok b) h k = ap Ok (same_some a b (sym h.0 ∙ k.0))
  read_determined (Ok a) (Err f) h k = no_fault a f _ h k
  read_determined (Err f) (Ok b) h k = no_fault b f _ k h
  read_determined (Err f) (Err e) h k = elim (read_fault f h) [
    | inl absent ↦ elim (read_fault e k) [
      | inl other ↦ ap Err (absent.0 ∙ sym other.0)
      | inr long ↦ not_none long.1 _ (sym long.2 ∙ absent.1)
    ]
    | inr long ↦ elim (read_fault e k) [
      | inl absent ↦ not_none long.1 _ (sym long.2 ∙ absent.1)
      | inr other ↦ ap Err (long.0 ∙ sym other.0)
    ]
  ]

-- ---- words

spelled_determined : (words : List Word) → Determined (Spelled words)
spelled_determined words (Ok a) (Ok b) h k = ap Ok (one_job words a b h k)
spelled_determined words (Ok a) (Err f) h k = absurd (k.1 a h)
spelled_determined words (Err f) (Ok b) h k = absurd (h.1 b k)
spelled_determined words (Err f) (Err e) h k = ap Err (h.0 ∙ sym k.0)

-- ---- the whole

module _ (files : Files) where
  file_determined : (name : Word) → Determined (Within File (Read (Some files) name))
  file_determined name = determined_within File (Read (Some files) name) (read_determined files name)

  file_netlist_determined : (setting : SettingValue) (net : Word) → Determined (NetlistIn (Some files) setting.signature net)
  file_netlist_determined setting net =
      determined_after (Within File (Read (Some files) net)) (λ text. Within (Netlist net) (BoundNetOf setting.signature (by_ending net text))) (file_determined net)
      (λ text read. determined_within (Netlist net) (BoundNetOf setting.signature (by_ending net text)) (netlist_determined setting.signature (by_ending net text)))

  unrolled_determined : (net : Word) (netlist : BoundNet) (cycles : ℕ) → Determined (UnrolledIn net netlist cycles)
  unrolled_determined net netlist cycles = determined_within (Netlist net) (CircuitOf netlist cycles) (circuit_determined netlist cycles)

  file_circuit_determined : (setting : SettingValue) (net : Word) (cycles : ℕ) → Determined (CircuitIn (Some files) setting.signature net cycles)
  file_circuit_determined setting net cycles = determined_after (NetlistIn (Some files) setting.signature net) (λ netlist. UnrolledIn net netlist cycles) (file_netlist_determined setting net) (λ netlist taken. unrolled_determined net netlist cycles)

  -- of these circuits, or of simpler ones
  unrolled_with_determined : (setting : SettingValue) (sound : IsSoundSetting setting) (net : Word) (netlist : BoundNet) (text : NetlistText) → BoundNetOf setting.signature text (Ok netlist) → (cycles : ℕ) (simple : Bool) → Determined (SimplerUnrolledIn net netlist cycles simple)
  unrolled_with_determined setting sound net netlist text is cycles simple =
      determined_after (UnrolledIn net netlist cycles) (λ circuit. SimplerOf simple circuit) (unrolled_determined net netlist cycles)
      (λ circuit of. one_simpler simple circuit (one_cycle setting circuit sound text cycles (netlist, is, of)).0)

  file_simpler_determined : (setting : SettingValue) (sound : IsSoundSetting setting) (net : Word) (cycles : ℕ) (simple : Bool) → Determined (SimplerIn (Some files) setting.signature net cycles simple)
  file_simpler_determined setting sound net cycles simple =
      determined_after (CircuitIn (Some files) setting.signature net cycles) (λ circuit. SimplerOf simple circuit) (file_circuit_determined setting net cycles)
      (λ circuit of. one_simpler simple circuit (one_cycle setting circuit sound (by_ending net of.1.0) cycles (of.0, of.1.2, of.2)).0)

  pub said_determined : (setting : SettingValue) (file : Word) → Determined (SpecificationIn (Some files) (labels_of setting.k setting.signature.words) setting.k setting.product file)
  said_determined setting file =
      let labels = labels_of setting.k setting.signature.words in
      determined_after (Within File (Read (Some files) file)) (λ bytes. Within Specification (SpecificationOf labels setting.k setting.product bytes)) (file_determined file)
      (λ bytes read. determined_within Specification (SpecificationOf labels setting.k setting.product bytes) (specification_determined labels setting.k setting.product bytes))

  second_in_determined : (name : Word) → Determined (SecondIn (Some files) name)
  second_in_determined name =
      determined_after (SecondSignedIn (Some files) name) SecondOf
      (determined_after (Within File (Read (Some files) name)) (λ text. Within SecondSignature (SignedOf text)) (file_determined name) (λ text read. determined_within SecondSignature (SignedOf text) (signed_determined text)))
      (λ signed taken. determined_after (Within SecondSignature (SettingWith signed)) (λ setting. Exactly setting.signature) (determined_within SecondSignature (SettingWith signed) (with_determined signed)) (λ setting with. determined_exactly setting.signature))

  table_in_determined : (k n : ℕ) (name : Word) → Determined (TableIn (Some files) k n name)
  table_in_determined k n name =
      determined_after (Within File (Read (Some files) name)) (λ text. Within faults.Table (TableOf k n text)) (file_determined name) (λ text read. determined_within faults.Table (TableOf k n text) (table_text_determined k n text))

  certified_determined : (setting : SettingValue) (net file : Word) (cycles : ℕ) → Determined (CertifiedIn (Some files) setting.signature net file cycles)
  certified_determined setting net file cycles =
      determined_after (NetlistIn (Some files) setting.signature net) (λ netlist. CertifiedOver (Some files) net netlist file cycles) (file_netlist_determined setting net) (λ netlist taken.
      determined_after (Within File (Read (Some files) file)) (λ bytes. CertifiedBy net netlist cycles bytes) (file_determined file) (λ bytes read.
      determined_after (UnrolledIn net netlist cycles) (λ circuit. Exactly (circuit, bytes)) (unrolled_determined net netlist cycles) (λ circuit of. determined_exactly (circuit, bytes))))

  file_hierarchy_determined : (setting : SettingValue) (net : Word) → Determined (HierarchyIn (Some files) setting.signature net)
  file_hierarchy_determined setting net =
      determined_after (Within File (Read (Some files) net)) (λ text. Within (Netlist net) (HierarchyOf setting.signature text)) (file_determined net)
      (λ text read. determined_within (Netlist net) (HierarchyOf setting.signature text) (hierarchy_determined setting.signature text))

  composed_determined : (setting : SettingValue) (net : Word) (terms : ℕ) → IsSoundSetting setting → CanBindBlocks setting → Determined (ComposeAnswer (Some files) setting net terms)
  composed_determined setting net terms sound blocks =
      determined_after (HierarchyIn (Some files) setting.signature net) (λ design. ComposeOver setting design terms) (file_hierarchy_determined setting net)
      (λ design taken. compose_determined setting sound blocks design (hierarchy_right setting.signature taken.0 design taken.2) terms)

  action_determined : (setting : SettingValue) (action : Action) → IsSoundSetting setting → CanBindBlocks setting → Determined (ActionAnswer (Some files) setting action)
  action_determined setting (Bits net terms cycles simple) sound blocks =
      determined_after (SimplerIn (Some files) setting.signature net cycles simple) (λ circuit. BitsReply setting circuit terms) (file_simpler_determined setting sound net cycles simple)
      (λ circuit of. bits_determined setting circuit terms sound (by_ending net of.1.1.0) cycles simple (of.0, (of.1.0, of.1.1.2, of.1.2), of.2))
  action_determined setting (Abstract net terms cycles simple) sound blocks =
      determined_after (SimplerIn (Some files) setting.signature net cycles simple) (λ circuit. AbstractReply setting circuit terms) (file_simpler_determined setting sound net cycles simple)
      (λ circuit of. abstract_determined setting circuit terms sound (by_ending net of.1.1.0) cycles simple (of.0, (of.1.0, of.1.1.2, of.1.2), of.2))
  action_determined setting (Check net file terms cycles simple) sound blocks =
      determined_after (NetlistIn (Some files) setting.signature net) (λ netlist. CheckOver (Some files) setting net netlist file terms cycles simple) (file_netlist_determined setting net) (λ netlist taken.
      determined_after (SpecificationIn (Some files) (labels_of setting.k setting.signature.words) setting.k setting.product file) (λ spec. CheckUnrolled setting net netlist spec terms cycles simple) (said_determined setting file) (λ spec said.
      determined_after (SimplerUnrolledIn net netlist cycles simple) (λ circuit. CheckReply setting circuit spec terms) (unrolled_with_determined setting sound net netlist (by_ending net taken.0) taken.2 cycles simple) (λ circuit of.
      check_determined setting circuit spec terms sound (by_ending net taken.0) cycles simple (of.0, (netlist, taken.2, of.1), of.2))))
  action_determined setting (Same net other terms cycles simple) sound blocks =
      determined_after (NetlistIn (Some files) setting.signature net) (λ netlist. SameBeside (Some files) setting net netlist other terms cycles simple) (file_netlist_determined setting net) (λ netlist taken.
      determined_after (NetlistIn (Some files) setting.signature other) (λ second. SameUnrolled setting net netlist other second terms cycles simple) (file_netlist_determined setting other) (λ second taken'.
      determined_after (SimplerUnrolledIn net netlist cycles simple) (λ circuit. SameSecond setting circuit other second terms cycles simple) (unrolled_with_determined setting sound net netlist (by_ending net taken.0) taken.2 cycles simple) (λ circuit of.
      determined_after (SimplerUnrolledIn other second cycles simple) (λ more. SameReply setting circuit more terms) (unrolled_with_determined setting sound other second (by_ending other taken'.0) taken'.2 cycles simple) (λ more of'.
      same_determined setting circuit more terms sound (by_ending net taken.0) cycles simple (of.0, (netlist, taken.2, of.1), of.2) (by_ending other taken'.0) cycles simple (of'.0, (second, taken'.2, of'.1), of'.2)))))
  action_determined setting (Eval net values cycles) sound blocks =
      let count = length (labels_of setting.k setting.signature.words).words in
      determined_after (NetlistIn (Some files) setting.signature net) (λ netlist. EvalOver setting net netlist values cycles) (file_netlist_determined setting net) (λ netlist taken.
      determined_after (Within Value (ValuesOf setting.k count values)) (λ xs. EvalAt setting net netlist xs cycles) (determined_within Value (ValuesOf setting.k count values) (values_determined setting.k count values)) (λ xs are.
      determined_after (UnrolledIn net netlist cycles) (λ circuit. EvalReply setting circuit xs) (unrolled_determined net netlist cycles) (λ circuit of.
      eval_determined setting circuit xs sound (by_ending net taken.0) cycles (netlist, taken.2, of))))
  action_determined setting (Iso other) sound blocks =
      determined_after (SecondIn (Some files) other) (λ second. IsoReply setting.signature second) (second_in_determined other) (λ second taken. iso_determined setting.signature second)
  action_determined setting (Lift table) sound blocks =
      determined_after (SmallEnough setting) (λ u. LiftOver (Some files) setting table) (small_determined setting) (λ u small.
      determined_after (TableIn (Some files) setting.k (2 ^ (setting.k * table_words setting)) table) (λ values. LiftReply setting values) (table_in_determined setting.k (2 ^ (setting.k * table_words setting)) table) (λ values taken. lift_determined setting sound values))
  action_determined setting (Table net cycles) sound blocks =
      determined_after (SmallEnough setting) (λ u. TableOver (Some files) setting net cycles) (small_determined setting) (λ u small.
      determined_after (CircuitIn (Some files) setting.signature net cycles) (λ circuit. TableReply setting circuit) (file_circuit_determined setting net cycles)
      (λ circuit of. table_determined setting circuit sound (by_ending net of.1.0) cycles (of.0, of.1.2, of.2)))
  action_determined setting (Certify net terms cycles) sound blocks =
      determined_after (CircuitIn (Some files) setting.signature net cycles) (λ circuit. CertifyReply setting circuit terms) (file_circuit_determined setting net cycles)
      (λ circuit of. certify_determined setting circuit sound (by_ending net of.1.0) cycles (of.0, of.1.2, of.2) terms)
  action_determined setting (Verify net certificate terms cycles) sound blocks =
      determined_after (CertifiedIn (Some files) setting.signature net certificate cycles) (λ certified. VerifyReply setting terms certified) (certified_determined setting net certificate cycles) (λ certified of. verify_determined setting sound terms certified)
  action_determined setting (Upgrade net certificate cycles) sound blocks =
      determined_after (CertifiedIn (Some files) setting.signature net certificate cycles) (λ certified. UpgradeReply setting certified) (certified_determined setting net certificate cycles) (λ certified of. upgrade_determined setting certified)
  action_determined setting (Make kind) sound blocks = make_determined setting sound kind
  action_determined setting (Compose net terms) sound blocks = composed_determined setting net terms sound blocks

  signed_answer_determined : (text : List ℕ) (signed : SignedValue) (action : Action) → SignedOf text (Ok signed) → Determined (SignedAnswer (Some files) signed action)
  signed_answer_determined text signed action is =
      determined_after (Within Signature (SettingWith signed)) (λ setting. ActionAnswer (Some files) setting action) (determined_within Signature (SettingWith signed) (with_determined signed))
      (λ setting taken. action_determined setting action (setting_sound text setting (signed, is, taken)) (setting_blocks text setting (signed, is, taken)))

  signed_in_determined : (name : Word) → Determined (SignedIn (Some files) name)
  signed_in_determined name =
      determined_after (Within File (Read (Some files) name)) (λ text. Within Signature (SignedOf text)) (file_determined name) (λ text read. determined_within Signature (SignedOf text) (signed_determined text))

  job_determined : (job : Job) → Determined (JobAnswer (Some files) job)
  job_determined (Over signature action) =
      determined_after (SignedIn (Some files) signature) (λ signed. SignedAnswer (Some files) signed action) (signed_in_determined signature)
      (λ signed taken. signed_answer_determined taken.0 signed action taken.2)
  job_determined (Trial number modulus terms) = trial_determined number modulus terms

  pub answer_determined : (words : List Word) → Determined (Answer words (Some files))
  answer_determined words = determined_after (Spelled words) (λ job. JobAnswer (Some files) job) (spelled_determined words) (λ job is. job_determined job)

-- a trial reads no file
pub trial_answer_determined : (words : List Word) (held : Option Files) (number modulus bound : ℕ) → IsSpelled words (Trial number modulus bound) → Determined (Answer words held)
trial_answer_determined words held number modulus bound spelled =
    determined_after (Spelled words) (λ job. JobAnswer held job) (spelled_determined words)
    (λ job is. let P : Job → Type 0 = λ j. Determined (JobAnswer held j) in subst P (one_job words (Trial number modulus bound) job spelled is) (trial_determined number modulus bound))
