-- The command `abstract`: the output word's polynomial in the input words. Source: Pruss, Kalla, Enescu, Word-Level Abstraction from
-- Bit-Level Circuits Using Gröbner Bases, DAC 2014; the stages and the bound on their terms are this project's own.
use Rattle.std.specs.Prelude.{ℕ, Bool, Option}
use Rattle.outcome.specs.Outcome.{Outcome, ◌>>=◌, Exactly, Within}
use Rattle.job_io.specs.Shelf.{Files}
use Rattle.net_words.specs.Binding.{BoundNet}
use Rattle.job_words.specs.declared.fault.Fault.{Fault}
use Rattle.job_words.specs.declared.fault.Fault.TheVariants as faults
use Rattle.job_words.specs.declared.words.SimplifyWords.{SimplifyWords}
use Rattle.job_words.specs.Operands.{Word}
use Rattle.job_input.specs.SettingValue.{SettingValue}
use Rattle.answer_core.specs.Abstraction.{AbstractOf}
use Rattle.answer_core.specs.Reply.{Reply, prints}
use Rattle.answer_core.specs.Simpler.{SimplerIn}

-- its reply over a circuit
abbrev pub AbstractReply : SettingValue → BoundNet → ℕ → Outcome Fault Reply
AbstractReply setting circuit bound = do
  ts ← Within faults.Stage (AbstractOf setting circuit bound)
  Exactly (prints setting ts)

-- its answer, after its signature was taken: its input is a netlist, whose circuit is made simpler where it is asked for
abbrev pub AbstractAnswer : Option Files → SettingValue → Word → (terms cycles : ℕ) → (simple : Bool) → Outcome Fault Reply
AbstractAnswer held setting net terms cycles simple = do
  circuit ← SimplerIn held setting.signature net cycles simple
  AbstractReply setting circuit terms

-- its answer to the command's words
abbrev pub AbstractAnswerTo : SettingValue → SimplifyWords → Option Files → Outcome Fault Reply
AbstractAnswerTo setting words held = AbstractAnswer held setting words.net.now words.terms words.cycles words.simplify
