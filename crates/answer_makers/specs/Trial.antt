-- The command `trial`: the input at which a multiplier with one bit of one table turned over is told apart from the product. Source: this project's own.
use Rattle.std.specs.Prelude.{ℕ, List, [], ◌++◌, codes, length, Some}
use Rattle.std.specs.Fmt.{decimal}
use Rattle.outcome.specs.Outcome.{Outcome, ◌>>=◌, Exactly, Within}
use Rattle.net_words.specs.Binding.{BoundNet}
use Rattle.poly_mixed.specs.Text.{hex_text}
use Rattle.circuit_model.specs.Differing.{AreSame, Difference}
use Rattle.circuit_model.specs.Out.{IsOut}
use Rattle.spec_expand.specs.SpecListing.{spec_listing}
use Rattle.spec_expand.specs.Specification.{SpecTerms}
use Rattle.job_words.specs.declared.fault.Fault.{Fault}
use Rattle.job_words.specs.declared.fault.Fault.TheVariants as faults
use Rattle.job_words.specs.declared.stage_fault.StageFault.{StageFault}
use Rattle.job_words.specs.StageFault.{stage_text}
use Rattle.job_words.specs.declared.made_words.TrialWords.{TrialWords}
use Rattle.job_input.specs.FieldOf.{FieldOf}
use Rattle.job_input.specs.Labelling.{labels_of}
use Rattle.job_input.specs.SettingValue.{SettingValue}
use Rattle.make_trial.specs.Trial.{product_terms, trial_circuit, trial_index, trial_place, trial_setting}
use Rattle.answer_core.specs.DifferingLines.{differing_lines}
use Rattle.answer_core.specs.Reply.{Reply}
use Rattle.answer_core.specs.Staged.{Staged}
use Rattle.answer_core.specs.Abstraction.{taken_circuit, AbstractOf}
use Rattle.answer_core.specs.Judged.{IsJudged, IsSpecified}

-- how many terms the polynomial in words has, where no stage of cuts and words has more than `bound`
abbrev pub TermsOf : SettingValue → BoundNet → ℕ → Outcome Fault ℕ
TermsOf setting circuit bound = do
  ts ← Within faults.Stage (AbstractOf setting circuit bound)
  Exactly (length ts)

-- the input at which the output is told apart from the specification, where no stage of the specification has more than `bound` terms
abbrev pub ToldApart : SettingValue → BoundNet → SpecTerms → ℕ → Outcome StageFault Difference
ToldApart setting circuit spec bound = Staged setting.k setting.product (spec_listing (taken_circuit setting circuit) spec) (stage_text (labels_of setting.k setting.signature.words)) bound (λ found. IsJudged setting circuit spec (Some found))

-- the circuit's output is not the specification's value at every input
abbrev pub MissesSpecification : SettingValue → BoundNet → SpecTerms → Type 0
MissesSpecification setting circuit spec = AreSame (taken_circuit setting circuit) (IsOut (taken_circuit setting circuit)) (IsSpecified setting (taken_circuit setting circuit) spec) → ⊥

-- the modulus, the number of gates, the gate that is turned and the bit of its table, and the number of terms
abbrev pub trial_head : (modulus gates place index terms : ℕ) → List ℕ
trial_head modulus gates place index terms =
    codes "modulus "
    ++ (hex_text modulus ++ (codes "\ngates " ++ (decimal gates ++ (codes "\nchanged " ++ (decimal place ++ (codes " index " ++ (decimal index ++ (codes "\nterms " ++ (decimal terms ++ codes "\n")))))))))

-- these of a circuit, where the number of the trial tells the gate and the bit of its table
abbrev pub trial_head_over : (k modulus : ℕ) → BoundNet → (number terms : ℕ) → List ℕ
trial_head_over k modulus circuit number terms = trial_head modulus (length circuit.net.gates) (trial_place k number) (trial_index k number) terms

-- these, and then the input with the two values there
abbrev pub trial_reply : SettingValue → BoundNet → (number terms : ℕ) → Difference → Reply
trial_reply setting circuit number terms found = record {
  status = 0;
  text = trial_head setting.signature.modulus (length circuit.net.gates) (trial_place setting.k number) (trial_index setting.k number) terms ++ differing_lines (labels_of setting.k setting.signature.words) (codes "netlist") (codes "product") found;
}

-- its reply beside the number of terms: the stages of the specification come after those of the words
abbrev pub TrialBeside : SettingValue → BoundNet → SpecTerms → (number bound terms : ℕ) → Outcome Fault Reply
TrialBeside setting circuit spec number bound terms = do
  found ← Within faults.Stage (ToldApart setting circuit spec bound)
  Exactly (trial_reply setting circuit number terms found)

-- its reply over a circuit and a specification: the stages of cuts and words come first
abbrev pub TrialReply : SettingValue → BoundNet → SpecTerms → (number bound : ℕ) → Outcome Fault Reply
TrialReply setting circuit spec number bound = do
  terms ← TermsOf setting circuit bound
  TrialBeside setting circuit spec number bound terms

-- both with the words of the command
abbrev pub TrialBesideTo : SettingValue → BoundNet → SpecTerms → TrialWords → ℕ → Outcome Fault Reply
TrialBesideTo setting circuit spec words terms = TrialBeside setting circuit spec words.number words.terms terms

abbrev pub TrialReplyTo : SettingValue → BoundNet → SpecTerms → TrialWords → Outcome Fault Reply
TrialReplyTo setting circuit spec words = TrialReply setting circuit spec words.number words.terms

-- its reply over the field of a modulus of this degree
abbrev pub TrialOver : (degree modulus number bound : ℕ) → Outcome Fault Reply
TrialOver degree modulus number bound = TrialReply (trial_setting degree modulus) (trial_circuit degree modulus number) product_terms number bound

-- its answer: the modulus is taken as that of a signature
abbrev pub TrialAnswer : (number modulus bound : ℕ) → Outcome Fault Reply
TrialAnswer number modulus bound = do
  field ← Within faults.Signature (FieldOf modulus [] [])
  TrialOver field.k modulus number bound
