-- The command `check`: whether a netlist computes its specification, or the input at which it does not. Source: this project's own.
use Rattle.std.specs.Prelude.{ℕ, Bool, List, ◌++◌, codes, Option, None, Some}
use Rattle.outcome.specs.Outcome.{Outcome, ◌>>=◌, Exactly, Within}
use Rattle.job_io.specs.Shelf.{Files}
use Rattle.net_words.specs.Binding.{BoundNet}
use Rattle.poly_mixed.specs.Labels.{Labelling}
use Rattle.circuit_model.specs.Differing.{Difference}
use Rattle.spec_expand.specs.Specification.{SpecTerms}
use Rattle.job_words.specs.declared.fault.Fault.{Fault}
use Rattle.job_words.specs.declared.fault.Fault.TheVariants as faults
use Rattle.job_words.specs.declared.words.SimplifyPairWords.{SimplifyPairWords}
use Rattle.job_words.specs.Operands.{Word}
use Rattle.job_input.specs.Labelling.{labels_of}
use Rattle.job_input.specs.NetlistOf.{NetlistIn}
use Rattle.job_input.specs.SettingValue.{SettingValue}
use Rattle.job_input.specs.SpecificationIn.{SpecificationIn}
use Rattle.answer_core.specs.DifferingLines.{differing_lines}
use Rattle.answer_core.specs.Judged.{JudgedOf}
use Rattle.answer_core.specs.Reply.{Reply, polynomial_line}
use Rattle.answer_core.specs.Simpler.{SimplerUnrolledIn}
use Rattle.answer_core.specs.Abstraction.{AbstractOf}

-- the line of the polynomial in words, as `abstract` prints it
abbrev pub WordsLine : SettingValue → BoundNet → ℕ → Outcome Fault (List ℕ)
WordsLine setting circuit bound = do
  ts ← Within faults.Stage (AbstractOf setting circuit bound)
  Exactly (polynomial_line setting ts)

-- the text where the output and the specification are told apart
abbrev pub rejected_lines : Labelling → List ℕ → Difference → List ℕ
rejected_lines labels line found = codes "rejected\n" ++ (line ++ differing_lines labels (codes "netlist") (codes "specification") found)

-- how a comparison is answered: `accepted` and the line; or `rejected`, the line, and the input with the two values there
abbrev pub check_reply : Labelling → List ℕ → Option Difference → Reply
check_reply labels line None = record { status = 0; text = codes "accepted\n" ++ line }
check_reply labels line (Some found) = record { status = 1; text = rejected_lines labels line found }

-- its reply beside the line of the polynomial: the stages of the specification come after those of the words
abbrev pub CheckBeside : SettingValue → BoundNet → SpecTerms → ℕ → List ℕ → Outcome Fault Reply
CheckBeside setting circuit spec bound line = do
  found ← Within faults.Stage (JudgedOf setting circuit spec bound)
  Exactly (check_reply (labels_of setting.k setting.signature.words) line found)

-- its reply over a circuit and a specification: the stages of cuts and words come first, as those of `abstract`
abbrev pub CheckReply : SettingValue → BoundNet → SpecTerms → ℕ → Outcome Fault Reply
CheckReply setting circuit spec bound = do
  line ← WordsLine setting circuit bound
  CheckBeside setting circuit spec bound line

-- its answer over a netlist and a specification: the netlist's cycles are unrolled then, and their circuit is made simpler where it is
-- asked for
abbrev pub CheckUnrolled : SettingValue → Word → BoundNet → SpecTerms → (terms cycles : ℕ) → (simple : Bool) → Outcome Fault Reply
CheckUnrolled setting net netlist spec terms cycles simple = do
  circuit ← SimplerUnrolledIn net netlist cycles simple
  CheckReply setting circuit spec terms

-- its answer over a netlist: the specification is read then
abbrev pub CheckOver : Option Files → SettingValue → Word → BoundNet → Word → (terms cycles : ℕ) → (simple : Bool) → Outcome Fault Reply
CheckOver held setting net netlist file terms cycles simple = do
  spec ← SpecificationIn held (labels_of setting.k setting.signature.words) setting.k setting.product file
  CheckUnrolled setting net netlist spec terms cycles simple

-- its answer, after its signature was taken: its inputs are a netlist and a specification
abbrev pub CheckAnswer : Option Files → SettingValue → Word → Word → (terms cycles : ℕ) → (simple : Bool) → Outcome Fault Reply
CheckAnswer held setting net file terms cycles simple = do
  netlist ← NetlistIn held setting.signature net
  CheckOver held setting net netlist file terms cycles simple

-- its answer to the command's words
abbrev pub CheckAnswerTo : SettingValue → SimplifyPairWords → Option Files → Outcome Fault Reply
CheckAnswerTo setting words held = CheckAnswer held setting words.net.now words.other.now words.terms words.cycles words.simplify

-- after the netlist was read
abbrev pub CheckAfter : SettingValue → SimplifyPairWords → BoundNet → Option Files → Outcome Fault Reply
CheckAfter setting words netlist held = CheckOver held setting words.net.now netlist words.other.now words.terms words.cycles words.simplify

-- and after both files were read
abbrev pub CheckAfterBoth : SettingValue → SimplifyPairWords → BoundNet → SpecTerms → Outcome Fault Reply
CheckAfterBoth setting words netlist spec = CheckUnrolled setting words.net.now netlist spec words.terms words.cycles words.simplify
