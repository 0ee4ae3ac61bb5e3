-- When a command is refused, and when it stops at a stage: what it reads, step by step, of which the first fault counts, and then the
-- first of its stages over the bound. Source: this project's own, docs/COMMANDS.md.
use Rattle.std.specs.Prelude.{◌≡◌, ◌⊎◌, ◌↔◌, ℕ, ◌*◌, ◌^◌, Bool, List, [], length, Option, Some, Ok, Err}
use Rattle.outcome.specs.Outcome.{Outcome, ◌>>=◌, Exactly, Within}
use Rattle.job_io.specs.Shelf.{Files}
use Rattle.gf_basis.specs.declared.bases.Basis.{Basis}
use Rattle.net_blif.specs.Design.{ModelValue}
use Rattle.net_blif.specs.Statement.{Token}
use Rattle.net_words.specs.Binding.{BoundNet}
use Rattle.poly_mixed.specs.declared.stage.Stage.{Stage}
use Rattle.cert_check.specs.Verdict.{Check as CheckText}
use Rattle.cert_check.specs.declared.fault.CertFault.{CertFault}
use Rattle.cert_check.specs.declared.fault.CertFault.TheVariants as text
use Rattle.spec_expand.specs.SpecListing.{spec_listing}
use Rattle.spec_expand.specs.Specification.{SpecTerms}
use Rattle.stage_model.specs.Listing.{AreAllWithin}
use Rattle.block_compose.specs.Composed.{ComposesIn}
use Rattle.block_compose.specs.declared.fault.ComposeFault.{ComposeFault}
use Rattle.block_compose.specs.declared.fault.ComposeFault.TheVariants.{TooManyTerms}
use Rattle.job_words.specs.Fault.{fault_status}
use Rattle.job_words.specs.Command.{Abstract, Action, Bits, Certify, Check, Compose, Eval, Iso, Lift, Make, Over, Same, Table, Trial, Upgrade, Verify, IsSpelled}
use Rattle.job_words.specs.Operands.{Word}
use Rattle.job_words.specs.StageFault.{stage_text}
use Rattle.job_words.specs.declared.fault.Fault.{Fault}
use Rattle.job_words.specs.declared.fault.Fault.TheVariants as faults
use Rattle.job_words.specs.declared.stage_fault.StageFault.{StageFault}
use Rattle.job_input.specs.CircuitOf.{CircuitIn, UnrolledIn}
use Rattle.job_input.specs.FieldOf.{FieldOf, FieldValue}
use Rattle.job_input.specs.HierarchyIn.{HierarchyIn}
use Rattle.job_input.specs.Labelling.{labels_of}
use Rattle.job_input.specs.NetlistOf.{NetlistIn}
use Rattle.job_input.specs.SettingOf.{SettingWith}
use Rattle.job_input.specs.SettingValue.{SettingValue}
use Rattle.job_input.specs.SignedIn.{SignedIn}
use Rattle.job_input.specs.SpecificationIn.{SpecificationIn}
use Rattle.job_input.specs.TableIn.{TableIn}
use Rattle.make_trial.specs.Trial.{product_terms, trial_circuit, trial_setting}
use Rattle.answer_core.specs.Abstraction.{abstract_stages, bits_stages, taken_circuit}
use Rattle.answer_core.specs.Reply.{Reply}
use Rattle.answer_core.specs.Simpler.{SimplerIn, SimplerUnrolledIn}
use Rattle.answer_core.specs.Staged.{IsStageOver, either_net_text, either_text}
use Rattle.answer_certificates.specs.Certificates.{CertifiedIn, HaveDuals, certificate_fault_of, certificate_labels, sum_name}
use Rattle.answer_composition.specs.Compose.{ListsOf, compose_fault, hierarchy_with, stage_called}
use Rattle.answer_polynomials.specs.Same.{same_stages}
use Rattle.answer_polynomials.specs.Values.{ValuesOf}
use Rattle.answer_tables.specs.Lift.{SmallEnough, table_words}
use Rattle.gf_abs.specs.Answer.{Answer}

-- ---- what a command reads

-- the setting of the signature's file: the file is read, its text taken, and then its words get their bases
abbrev pub SettingIn : Option Files → Word → Outcome Fault SettingValue
SettingIn held signature = do
  signed ← SignedIn held signature
  Within faults.Signature (SettingWith signed)

-- after the setting `certify` reads a netlist, and unrolls its cycles
abbrev pub CircuitGiven : Option Files → (net : Word) → (cycles : ℕ) → SettingValue → Outcome Fault BoundNet
CircuitGiven held net cycles setting = CircuitIn held setting.signature net cycles

-- so do `bits` and `abstract`, and make their circuit simpler where it is asked for
abbrev pub SimplerGiven : Option Files → (net : Word) → (cycles : ℕ) → (simple : Bool) → SettingValue → Outcome Fault BoundNet
SimplerGiven held net cycles simple setting = SimplerIn held setting.signature net cycles simple

-- `check` reads a netlist and then a specification, and then unrolls the netlist's cycles and makes their circuit simpler where it is
-- asked for
abbrev pub SpecifiedGiven : Option Files → (net specification : Word) → (cycles : ℕ) → (simple : Bool) → SettingValue → Outcome Fault (SpecTerms × BoundNet)
SpecifiedGiven held net specification cycles simple setting = do
  netlist ← NetlistIn held setting.signature net
  spec ← SpecificationIn held (labels_of setting.k setting.signature.words) setting.k setting.product specification
  circuit ← SimplerUnrolledIn net netlist cycles simple
  Exactly (spec, circuit)

-- `eval` reads a netlist and then its values, and then unrolls the netlist's cycles
abbrev pub EvalGiven : Option Files → (net : Word) → (values : List Word) → (cycles : ℕ) → SettingValue → Outcome Fault (List ℕ × BoundNet)
EvalGiven held net values cycles setting = do
  netlist ← NetlistIn held setting.signature net
  xs ← Within faults.Value (ValuesOf setting.k (length (labels_of setting.k setting.signature.words).words) values)
  circuit ← UnrolledIn net netlist cycles
  Exactly (xs, circuit)

-- `same` reads two netlists, and then unrolls the cycles of the first and of the second, and makes each circuit simpler where it is
-- asked for
abbrev pub BothGiven : Option Files → (net other : Word) → (cycles : ℕ) → (simple : Bool) → SettingValue → Outcome Fault (BoundNet × BoundNet)
BothGiven held net other cycles simple setting = do
  netlist ← NetlistIn held setting.signature net
  second ← NetlistIn held setting.signature other
  circuit ← SimplerUnrolledIn net netlist cycles simple
  more ← SimplerUnrolledIn other second cycles simple
  Exactly (circuit, more)

-- `table` asks for a small signature, and then reads a netlist and unrolls its cycles
abbrev pub TableGiven : Option Files → (net : Word) → (cycles : ℕ) → SettingValue → Outcome Fault BoundNet
TableGiven held net cycles setting = do
  small ← SmallEnough setting
  CircuitIn held setting.signature net cycles

-- `lift` asks for a small signature, and then reads a table
abbrev pub LiftGiven : Option Files → (file : Word) → SettingValue → Outcome Fault (List ℕ)
LiftGiven held file setting = do
  small ← SmallEnough setting
  TableIn held setting.k (2 ^ (setting.k * table_words setting)) file

-- ---- refusals and stops

-- the setting is refused, or it is not, and what is read after it is
abbrev pub Refuses : {G : Type 0} → Option Files → (signature : Word) → (SettingValue → Outcome Fault G) → Fault → Type 0
Refuses held signature given fault = SettingIn held signature (Err fault) ⊎ ((setting : SettingValue) × SettingIn held signature (Ok setting) × given setting (Err fault))

-- nothing is refused
pub record Reads {G : Type 0} (held : Option Files) (signature : Word) (given : SettingValue → Outcome Fault G) : Type 0 where
  pub setting : SettingValue
  pub setting_in : SettingIn held signature (Ok setting)
  pub value : G
  pub value_in : given setting (Ok value)

-- nothing is refused, and this is so of what is read
pub record Stops {G : Type 0} (held : Option Files) (signature : Word) (given : SettingValue → Outcome Fault G) (IsFirst : SettingValue → G → Type 0) : Type 0 where
  pub setting : SettingValue
  pub setting_in : SettingIn held signature (Ok setting)
  pub value : G
  pub value_in : given setting (Ok value)
  pub over : IsFirst setting value

-- a command is refused with status 2 exactly for the first fault of what it reads, and it stops with status 3 exactly at the first of
-- its stages over the bound
pub record IsRefusedInOrder {G : Type 0} (held : Option Files) (words : List Word) (signature : Word) (given : SettingValue → Outcome Fault G) (IsFirst : StageFault → SettingValue → G → Type 0) : Type 0 where
  pub refused : (fault : Fault) → Refuses held signature given fault ↔ (Answer words held (Err fault) × (fault_status fault ≡ 2))
  pub stopped : (stage : StageFault) → Stops held signature given (IsFirst stage) ↔ Answer words held (Err (faults.Stage stage))

-- a reply to the words
abbrev pub HasReply : List Word → Option Files → Type 0
HasReply words held = (reply : Reply) × Answer words held (Ok reply)

-- a reply to the words, or a stop with status 3 at a stage
abbrev pub HasReplyOrStop : List Word → Option Files → Type 0
HasReplyOrStop words held = HasReply words held ⊎ ((stage : StageFault) × Answer words held (Err (faults.Stage stage)))

-- ---- stages

-- of the cuts of a circuit this is the first over the bound, with its size
abbrev pub IsBitsOver : (bound : ℕ) → StageFault → SettingValue → BoundNet → Type 0
IsBitsOver bound stage setting circuit = IsStageOver setting.k setting.product (bits_stages setting circuit) (stage_text (labels_of setting.k setting.signature.words)) bound stage

-- of its cuts and then the stages of its words
abbrev pub IsAbstractOver : (bound : ℕ) → StageFault → SettingValue → BoundNet → Type 0
IsAbstractOver bound stage setting circuit = IsStageOver setting.k setting.product (abstract_stages setting circuit) (either_text (labels_of setting.k setting.signature.words)) bound stage

-- of the same stages, called by the labels of certificates
abbrev pub IsCertifyOver : (bound : ℕ) → StageFault → SettingValue → BoundNet → Type 0
IsCertifyOver bound stage setting circuit = IsStageOver setting.k setting.product (abstract_stages setting circuit) (either_text (certificate_labels setting circuit)) bound stage

-- of the cuts of a circuit and then those of a second one
abbrev pub IsSameOver : (bound : ℕ) → StageFault → SettingValue → BoundNet × BoundNet → Type 0
IsSameOver bound stage setting both = IsStageOver setting.k setting.product (same_stages setting both.0 both.1) (either_net_text (labels_of setting.k setting.signature.words)) bound stage

-- of the stages of a circuit's specification
abbrev pub IsSpecificationOver : (bound : ℕ) → StageFault → SettingValue → SpecTerms × BoundNet → Type 0
IsSpecificationOver bound stage setting given = IsStageOver setting.k setting.product (spec_listing (taken_circuit setting given.1) given.0) (stage_text (labels_of setting.k setting.signature.words)) bound stage

-- of a circuit's cuts and the stages of its words, and, where none of them is over the bound, of the stages of its specification
abbrev pub IsCheckOver : (bound : ℕ) → StageFault → SettingValue → SpecTerms × BoundNet → Type 0
IsCheckOver bound stage setting given = IsAbstractOver bound stage setting given.1 ⊎ (AreAllWithin setting.k setting.product (abstract_stages setting given.1) bound × IsSpecificationOver bound stage setting given)

-- ---- a trial, which reads no file

-- the modulus names a field, and of the stages of the multiplier over it, first its cuts and words and then the product's, this is the
-- first over the bound
pub record IsTrialOver (number modulus bound : ℕ) (stage : StageFault) : Type 0 where
  pub field : FieldValue
  pub named : FieldOf modulus [] [] (Ok field)
  pub over : IsCheckOver bound stage (trial_setting field.k modulus) (product_terms, trial_circuit field.k modulus number)

-- a trial is refused with status 2 exactly for the fault that a signature with its modulus has, and it stops with status 3 exactly at the
-- first of its stages over the bound
pub record IsTrialRefusedInOrder (held : Option Files) (words : List Word) (number modulus bound : ℕ) : Type 0 where
  pub refused : (fault : Fault) → Within faults.Signature (FieldOf modulus [] []) (Err fault) ↔ (Answer words held (Err fault) × (fault_status fault ≡ 2))
  pub stopped : (stage : StageFault) → IsTrialOver number modulus bound stage ↔ Answer words held (Err (faults.Stage stage))

-- ---- certificates, whose running sums stand in the place of stages

-- the first line of a certificate that shows a fault shows one of its text
pub record IsTextFault (bound : ℕ) (setting : SettingValue) (certified : BoundNet × List ℕ) (fault : Fault) : Type 0 where
  pub bases : List Basis
  pub duals : HaveDuals setting certified.0 bases
  pub found : CertFault
  pub first : CheckText setting.k setting.product certified.0 bases (certificate_labels setting certified.0) bound certified.1 (Err found)
  pub called : certificate_fault_of found ≡ Some fault

-- it shows a running sum over the bound, with its size
pub record IsSumOver (bound : ℕ) (stage : StageFault) (setting : SettingValue) (certified : BoundNet × List ℕ) : Type 0 where
  pub bases : List Basis
  pub duals : HaveDuals setting certified.0 bases
  pub line : ℕ
  pub terms : ℕ
  pub first : CheckText setting.k setting.product certified.0 bases (certificate_labels setting certified.0) bound certified.1 (Err (text.TooManyTerms line terms))
  pub called : stage ≡ record { stage = sum_name line; terms = terms; bound = bound }

-- `verify` reads a netlist and a certificate, unrolls the netlist's cycles, and then reads the certificate line by line
abbrev pub CertificateGiven : Option Files → (net certificate : Word) → (bound cycles : ℕ) → SettingValue → Outcome Fault (BoundNet × List ℕ)
CertificateGiven held net certificate bound cycles setting (Ok certified) = CertifiedIn held setting.signature net certificate cycles (Ok certified)
CertificateGiven held net certificate bound cycles setting (Err fault) =
    CertifiedIn held setting.signature net certificate cycles (Err fault) ⊎ ((certified : BoundNet × List ℕ) × CertifiedIn held setting.signature net certificate cycles (Ok certified) × IsTextFault bound setting certified fault)

-- ---- compositions

-- the first refusal of a composition is one of its structure
pub record IsStructureFault (bound : ℕ) (setting : SettingValue) (design : List ModelValue) (lists : List (List (List ℕ))) (fault : Fault) : Type 0 where
  pub found : ComposeFault
  pub first : ComposesIn setting.k setting.product setting.signature (hierarchy_with setting design lists) bound (Err found)
  pub called : compose_fault setting design bound found ≡ Some fault
  pub no_stage : fault_status fault ≡ 2

-- it is the first of its stages over the bound, with its size
pub record IsCompositionOver (bound : ℕ) (stage : StageFault) (setting : SettingValue) (given : List ModelValue × List (List (List ℕ))) : Type 0 where
  pub block : Option Token
  pub name : Stage
  pub terms : ℕ
  pub first : ComposesIn setting.k setting.product setting.signature (hierarchy_with setting given.0 given.1) bound (Err (TooManyTerms block name terms))
  pub called : stage ≡ record { stage = stage_called setting block name; terms = terms; bound = bound }

-- `compose` reads a hierarchy, whose words get their bases, and which may be refused for its structure
abbrev pub HierarchyGiven : Option Files → (net : Word) → (bound : ℕ) → SettingValue → Outcome Fault (List ModelValue × List (List (List ℕ)))
HierarchyGiven held net bound setting (Ok given) = HierarchyIn held setting.signature net (Ok given.0) × ListsOf setting.k setting.product setting.signature (Ok given.1)
HierarchyGiven held net bound setting (Err fault) =
    HierarchyIn held setting.signature net (Err fault)
    ⊎ ((design : List ModelValue) × HierarchyIn held setting.signature net (Ok design) × (ListsOf setting.k setting.product setting.signature (Err fault) ⊎ ((lists : List (List (List ℕ))) × ListsOf setting.k setting.product setting.signature (Ok lists) × IsStructureFault bound setting design lists fault)))

-- ---- commands without stages

-- those over a signature
abbrev pub HasNoStages : Action → Type 0
HasNoStages (Bits net terms cycles simple) = ⊥
HasNoStages (Abstract net terms cycles simple) = ⊥
HasNoStages (Check net specification terms cycles simple) = ⊥
HasNoStages (Same net other terms cycles simple) = ⊥
HasNoStages (Certify net terms cycles) = ⊥
HasNoStages (Verify net certificate terms cycles) = ⊥
HasNoStages (Compose net terms) = ⊥
HasNoStages (Eval net values cycles) = Unit {0}
HasNoStages (Iso other) = Unit {0}
HasNoStages (Lift table) = Unit {0}
HasNoStages (Table net cycles) = Unit {0}
HasNoStages (Upgrade net certificate cycles) = Unit {0}
HasNoStages (Make kind) = Unit {0}

-- ---- what is said of all words that spell a command, whatever the shelf tells of its files

-- of those that spell an action over a signature, and of each fault
abbrev pub OfActions : (Option Files → List Word → Word → Action → Fault → Type 0) → Type 0
OfActions Says = (held : Option Files) (words : List Word) (signature : Word) (action : Action) (fault : Fault)
    → IsSpelled words (Over signature action) → Says held words signature action fault

-- of those that spell `bits`
abbrev pub OfBits : (Option Files → List Word → (signature net : Word) → (bound cycles : ℕ) → (simple : Bool) → Type 0) → Type 0
OfBits Says = (held : Option Files) (words : List Word) (signature net : Word) (bound cycles : ℕ) (simple : Bool)
    → IsSpelled words (Over signature (Bits net bound cycles simple)) → Says held words signature net bound cycles simple

-- `abstract`
abbrev pub OfAbstract : (Option Files → List Word → (signature net : Word) → (bound cycles : ℕ) → (simple : Bool) → Type 0) → Type 0
OfAbstract Says = (held : Option Files) (words : List Word) (signature net : Word) (bound cycles : ℕ) (simple : Bool)
    → IsSpelled words (Over signature (Abstract net bound cycles simple)) → Says held words signature net bound cycles simple

-- `certify`
abbrev pub OfCertify : (Option Files → List Word → (signature net : Word) → (bound cycles : ℕ) → Type 0) → Type 0
OfCertify Says = (held : Option Files) (words : List Word) (signature net : Word) (bound cycles : ℕ)
    → IsSpelled words (Over signature (Certify net bound cycles)) → Says held words signature net bound cycles

-- `check`
abbrev pub OfCheck : (Option Files → List Word → (signature net spec : Word) → (bound cycles : ℕ) → (simple : Bool) → Type 0) → Type 0
OfCheck Says = (held : Option Files) (words : List Word) (signature net spec : Word) (bound cycles : ℕ) (simple : Bool)
    → IsSpelled words (Over signature (Check net spec bound cycles simple)) → Says held words signature net spec bound cycles simple

-- `same`
abbrev pub OfSame : (Option Files → List Word → (signature net other : Word) → (bound cycles : ℕ) → (simple : Bool) → Type 0) → Type 0
OfSame Says = (held : Option Files) (words : List Word) (signature net other : Word) (bound cycles : ℕ) (simple : Bool)
    → IsSpelled words (Over signature (Same net other bound cycles simple)) → Says held words signature net other bound cycles simple

-- `verify`
abbrev pub OfVerify : (Option Files → List Word → (signature net cert : Word) → (bound cycles : ℕ) → Type 0) → Type 0
OfVerify Says = (held : Option Files) (words : List Word) (signature net cert : Word) (bound cycles : ℕ)
    → IsSpelled words (Over signature (Verify net cert bound cycles)) → Says held words signature net cert bound cycles

-- `compose`
abbrev pub OfCompose : (Option Files → List Word → (signature net : Word) → (bound : ℕ) → Type 0) → Type 0
OfCompose Says = (held : Option Files) (words : List Word) (signature net : Word) (bound : ℕ)
    → IsSpelled words (Over signature (Compose net bound)) → Says held words signature net bound

-- `table`
abbrev pub OfTable : (Option Files → List Word → (signature net : Word) → (cycles : ℕ) → Type 0) → Type 0
OfTable Says = (held : Option Files) (words : List Word) (signature net : Word) (cycles : ℕ)
    → IsSpelled words (Over signature (Table net cycles)) → Says held words signature net cycles

-- `lift`
abbrev pub OfLift : (Option Files → List Word → (signature file : Word) → Type 0) → Type 0
OfLift Says = (held : Option Files) (words : List Word) (signature file : Word)
    → IsSpelled words (Over signature (Lift file)) → Says held words signature file

-- `eval`
abbrev pub OfEval : (Option Files → List Word → (signature net : Word) → (values : List Word) → (cycles : ℕ) → Type 0) → Type 0
OfEval Says = (held : Option Files) (words : List Word) (signature net : Word) (values : List Word) (cycles : ℕ)
    → IsSpelled words (Over signature (Eval net values cycles)) → Says held words signature net values cycles

-- and of those that spell a trial
abbrev pub OfTrial : (Option Files → List Word → (number modulus bound : ℕ) → Type 0) → Type 0
OfTrial Says = (held : Option Files) (words : List Word) (number modulus bound : ℕ) → IsSpelled words (Trial number modulus bound) → Says held words number modulus bound
