-- The command `table`: the output word's element at every input. Source: this project's own, docs/FORMATS.md.
use Rattle.std.specs.Prelude.{◌≡◌, ℕ, List, Option, Ok, Err}
use Rattle.outcome.specs.Outcome.{Outcome, ◌>>=◌}
use Rattle.job_io.specs.Shelf.{Files}
use Rattle.net_words.specs.Binding.{BoundNet}
use Rattle.lift_table.specs.CircuitTable.{IsTableOf}
use Rattle.lift_table.specs.TableText.{table_text}
use Rattle.job_words.specs.declared.fault.Fault.{Fault}
use Rattle.job_words.specs.Operands.{Word}
use Rattle.job_words.specs.declared.words.CycleWords.{CycleWords}
use Rattle.job_input.specs.CircuitOf.{CircuitIn}
use Rattle.job_input.specs.SettingValue.{SettingValue}
use Rattle.answer_core.specs.Reply.{Reply}
use Rattle.answer_core.specs.Abstraction.{taken_circuit}
use Rattle.answer_tables.specs.Lift.{SmallEnough}

-- its reply over a circuit: the text of the table of its output
abbrev pub TableReply : SettingValue → BoundNet → Outcome Fault Reply
TableReply setting circuit (Ok reply) = (table : List ℕ) × IsTableOf (taken_circuit setting circuit) table × (reply ≡ record { status = 0; text = table_text table })
TableReply setting circuit (Err fault) = ⊥

-- its answer, after the signature was found small: its input is a netlist
abbrev pub TableOver : Option Files → SettingValue → Word → (cycles : ℕ) → Outcome Fault Reply
TableOver held setting net cycles = do
  circuit ← CircuitIn held setting.signature net cycles
  TableReply setting circuit

-- its answer, after its signature was taken
abbrev pub TableAnswer : Option Files → SettingValue → Word → (cycles : ℕ) → Outcome Fault Reply
TableAnswer held setting net cycles = do
  small ← SmallEnough setting
  TableOver held setting net cycles

-- so it is with the words of the command
abbrev pub TableAnswerTo : SettingValue → CycleWords → Option Files → Outcome Fault Reply
TableAnswerTo setting words held = TableAnswer held setting words.net.now words.cycles

-- and after the signature was found small
abbrev pub TableOverTo : SettingValue → CycleWords → Option Files → Outcome Fault Reply
TableOverTo setting words held = TableOver held setting words.net.now words.cycles
