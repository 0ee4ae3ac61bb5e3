-- The command `same`: whether two netlists compute one function, or the input at which they are told apart. Source: this project's own.
use Rattle.std.specs.Prelude.{ℕ, Bool, List, ◌++◌, codes, Option, None, Some}
use Rattle.outcome.specs.Outcome.{Outcome, ◌>>=◌, Exactly, Within}
use Rattle.job_io.specs.Shelf.{Files}
use Rattle.net_words.specs.Binding.{BoundNet}
use Rattle.poly_mixed.specs.Labels.{Labelling}
use Rattle.poly_mixed.specs.declared.stage.Stage.{Stage}
use Rattle.circuit_model.specs.Differing.{Difference, IsComparison}
use Rattle.circuit_model.specs.Out.{IsOut}
use Rattle.stage_model.specs.Listing.{Listing, Joined, followed_by}
use Rattle.job_words.specs.declared.fault.Fault.{Fault}
use Rattle.job_words.specs.declared.fault.Fault.TheVariants as faults
use Rattle.job_words.specs.declared.stage_fault.StageFault.{StageFault}
use Rattle.job_words.specs.declared.words.SimplifyPairWords.{SimplifyPairWords}
use Rattle.job_words.specs.Operands.{Word}
use Rattle.job_input.specs.Labelling.{labels_of}
use Rattle.job_input.specs.NetlistOf.{NetlistIn}
use Rattle.job_input.specs.SettingValue.{SettingValue}
use Rattle.answer_core.specs.DifferingLines.{differing_lines}
use Rattle.answer_core.specs.Reply.{Reply}
use Rattle.answer_core.specs.Simpler.{SimplerUnrolledIn}
use Rattle.answer_core.specs.Staged.{Staged, either_net_text}
use Rattle.answer_core.specs.Abstraction.{taken_circuit, bits_stages}

-- its stages: the cuts of the first circuit, and then those of the second
abbrev pub same_stages : SettingValue → BoundNet → BoundNet → Listing (Joined Stage Stage)
same_stages setting circuit other = followed_by (bits_stages setting circuit) (bits_stages setting other)

-- this is the comparison of the two outputs
abbrev pub AreCompared : SettingValue → BoundNet → BoundNet → Option Difference → Type 0
AreCompared setting circuit other = IsComparison (taken_circuit setting circuit) (IsOut (taken_circuit setting circuit)) (IsOut (taken_circuit setting other))

-- the comparison of the two outputs, where no cut has more than `bound` terms
abbrev pub SameOf : SettingValue → BoundNet → BoundNet → ℕ → Outcome StageFault (Option Difference)
SameOf setting circuit other bound = Staged setting.k setting.product (same_stages setting circuit other) (either_net_text (labels_of setting.k setting.signature.words)) bound (AreCompared setting circuit other)

-- the text where the outputs are told apart
abbrev pub differ_lines : Labelling → Difference → List ℕ
differ_lines labels found = codes "differ\n" ++ differing_lines labels (codes "first") (codes "second") found

-- how a comparison is answered: `same`, or `differ` with the input and the two outputs there
abbrev pub same_reply : Labelling → Option Difference → Reply
same_reply labels None = record { status = 0; text = codes "same\n" }
same_reply labels (Some found) = record { status = 1; text = differ_lines labels found }

-- its reply over two circuits
abbrev pub SameReply : SettingValue → BoundNet → BoundNet → ℕ → Outcome Fault Reply
SameReply setting circuit other bound = do
  found ← Within faults.Stage (SameOf setting circuit other bound)
  Exactly (same_reply (labels_of setting.k setting.signature.words) found)

-- its answer over the first circuit and the second netlist, whose cycles are unrolled then, and their circuit made simpler where it is
-- asked for
abbrev pub SameSecond : SettingValue → BoundNet → Word → BoundNet → (terms cycles : ℕ) → (simple : Bool) → Outcome Fault Reply
SameSecond setting circuit other second terms cycles simple = do
  more ← SimplerUnrolledIn other second cycles simple
  SameReply setting circuit more terms

-- its answer over two netlists: the cycles of the first are unrolled first, and their circuit made simpler where it is asked for
abbrev pub SameUnrolled : SettingValue → (net : Word) → BoundNet → (other : Word) → BoundNet → (terms cycles : ℕ) → (simple : Bool) → Outcome Fault Reply
SameUnrolled setting net netlist other second terms cycles simple = do
  circuit ← SimplerUnrolledIn net netlist cycles simple
  SameSecond setting circuit other second terms cycles simple

-- its answer over the first netlist: the second is read then
abbrev pub SameBeside : Option Files → SettingValue → (net : Word) → BoundNet → (other : Word) → (terms cycles : ℕ) → (simple : Bool) → Outcome Fault Reply
SameBeside held setting net netlist other terms cycles simple = do
  second ← NetlistIn held setting.signature other
  SameUnrolled setting net netlist other second terms cycles simple

-- its answer, after its signature was taken: its inputs are two netlists
abbrev pub SameAnswer : Option Files → SettingValue → Word → Word → (terms cycles : ℕ) → (simple : Bool) → Outcome Fault Reply
SameAnswer held setting net other terms cycles simple = do
  netlist ← NetlistIn held setting.signature net
  SameBeside held setting net netlist other terms cycles simple

-- its answer to the command's words
abbrev pub SameAnswerTo : SettingValue → SimplifyPairWords → Option Files → Outcome Fault Reply
SameAnswerTo setting words held = SameAnswer held setting words.net.now words.other.now words.terms words.cycles words.simplify

-- after the first netlist was read
abbrev pub SameAfter : SettingValue → SimplifyPairWords → BoundNet → Option Files → Outcome Fault Reply
SameAfter setting words netlist held = SameBeside held setting words.net.now netlist words.other.now words.terms words.cycles words.simplify

-- after both netlists were read
abbrev pub SameAfterBoth : SettingValue → SimplifyPairWords → BoundNet → BoundNet → Outcome Fault Reply
SameAfterBoth setting words netlist second = SameUnrolled setting words.net.now netlist words.other.now second words.terms words.cycles words.simplify

-- and after the first circuit was made
abbrev pub SameAfterFirst : SettingValue → SimplifyPairWords → BoundNet → BoundNet → Outcome Fault Reply
SameAfterFirst setting words circuit second = SameSecond setting circuit words.other.now second words.terms words.cycles words.simplify
