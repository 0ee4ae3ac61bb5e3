-- The command `bits`: the output word's polynomial in the bits of the input words. Source: Lv, Kalla, Enescu, IEEE TCAD 2013; the
-- order of cuts and the bound on their terms are this project's own.
use Rattle.std.specs.Prelude.{ℕ, Bool, Option}
use Rattle.outcome.specs.Outcome.{Outcome, ◌>>=◌, Exactly, Within}
use Rattle.job_io.specs.Shelf.{Files}
use Rattle.net_words.specs.Binding.{BoundNet}
use Rattle.job_words.specs.declared.fault.Fault.{Fault}
use Rattle.job_words.specs.declared.fault.Fault.TheVariants as faults
use Rattle.job_words.specs.declared.words.SimplifyWords.{SimplifyWords}
use Rattle.job_words.specs.Operands.{Word}
use Rattle.job_input.specs.SettingValue.{SettingValue}
use Rattle.answer_core.specs.Abstraction.{BitsOf}
use Rattle.answer_core.specs.Reply.{Reply, prints}
use Rattle.answer_core.specs.Simpler.{SimplerIn}

-- its reply over a circuit
abbrev pub BitsReply : SettingValue → BoundNet → ℕ → Outcome Fault Reply
BitsReply setting circuit bound = do
  ts ← Within faults.Stage (BitsOf setting circuit bound)
  Exactly (prints setting ts)

-- its answer, after its signature was taken: its input is a netlist, whose circuit is made simpler where it is asked for
abbrev pub BitsAnswer : Option Files → SettingValue → Word → (terms cycles : ℕ) → (simple : Bool) → Outcome Fault Reply
BitsAnswer held setting net terms cycles simple = do
  circuit ← SimplerIn held setting.signature net cycles simple
  BitsReply setting circuit terms

-- its answer to the command's words
abbrev pub BitsAnswerTo : SettingValue → SimplifyWords → Option Files → Outcome Fault Reply
BitsAnswerTo setting words held = BitsAnswer held setting words.net.now words.terms words.cycles words.simplify
