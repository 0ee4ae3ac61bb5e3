-- The command `eval`: the output word's element where the words have given elements. Source: this project's own.
use Rattle.std.specs.Prelude.{◌≡◌, ℕ, List, length, map, string_bytes, Option, Ok, Err}
use Rattle.outcome.specs.Outcome.{Outcome, ◌>>=◌, Within}
use Rattle.job_io.specs.Shelf.{Files}
use Rattle.net_words.specs.Binding.{BoundNet}
use Rattle.circuit_model.specs.Out.{IsOut}
use Rattle.job_words.specs.declared.words.EvalWords.{EvalWords}
use Rattle.job_words.specs.Operands.{Word}
use Rattle.job_words.specs.declared.fault.Fault.{Fault}
use Rattle.job_words.specs.declared.fault.Fault.TheVariants as faults
use Rattle.job_input.specs.CircuitOf.{UnrolledIn}
use Rattle.job_input.specs.Labelling.{labels_of}
use Rattle.job_input.specs.NetlistOf.{NetlistIn}
use Rattle.job_input.specs.SettingValue.{SettingValue}
use Rattle.answer_core.specs.DifferingLines.{word_line}
use Rattle.answer_core.specs.Reply.{Reply}
use Rattle.answer_polynomials.specs.Values.{ValuesOf}
use Rattle.answer_core.specs.Abstraction.{taken_circuit}

-- the output word's name, ` = ` and its element
abbrev pub element_line : SettingValue → ℕ → List ℕ
element_line setting e = word_line (labels_of setting.k setting.signature.words).output e

-- its reply over a circuit: the line of the output at the input
abbrev pub EvalReply : SettingValue → BoundNet → List ℕ → Outcome Fault Reply
EvalReply setting circuit xs (Ok reply) = (e : ℕ) × IsOut (taken_circuit setting circuit) xs e × (reply ≡ record { status = 0; text = element_line setting e })
EvalReply setting circuit xs (Err fault) = ⊥

-- its answer over a netlist and an input: the netlist's cycles are unrolled then
abbrev pub EvalAt : SettingValue → Word → BoundNet → List ℕ → ℕ → Outcome Fault Reply
EvalAt setting net netlist xs cycles = do
  circuit ← UnrolledIn net netlist cycles
  EvalReply setting circuit xs

-- its answer over a netlist: the values are taken then, one for each input, state and fed word
abbrev pub EvalOver : SettingValue → Word → BoundNet → List Word → ℕ → Outcome Fault Reply
EvalOver setting net netlist values cycles = do
  xs ← Within faults.Value (ValuesOf setting.k (length (labels_of setting.k setting.signature.words).words) values)
  EvalAt setting net netlist xs cycles

-- its answer, after its signature was taken: its inputs are a netlist and values
abbrev pub EvalAnswer : Option Files → SettingValue → Word → List Word → ℕ → Outcome Fault Reply
EvalAnswer held setting net values cycles = do
  netlist ← NetlistIn held setting.signature net
  EvalOver setting net netlist values cycles

-- its answer to the command's words
abbrev pub EvalAnswerTo : SettingValue → EvalWords → Option Files → Outcome Fault Reply
EvalAnswerTo setting words held = EvalAnswer held setting words.net.now (map string_bytes words.values.now) words.cycles

-- after the netlist was read
abbrev pub EvalAfter : SettingValue → EvalWords → BoundNet → Outcome Fault Reply
EvalAfter setting words netlist = EvalOver setting words.net.now netlist (map string_bytes words.values.now) words.cycles
