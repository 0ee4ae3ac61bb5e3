-- The command `lift`: the polynomial of a table. Source: Lidl and Niederreiter, Finite Fields, chapter 7.
use Rattle.std.specs.Prelude.{◌≡◌, ℕ, ◌*◌, ◌^◌, List, length, Option, Ok, Err}
use Rattle.outcome.specs.Outcome.{Outcome, ◌>>=◌}
use Rattle.job_io.specs.Shelf.{Files}
use Rattle.poly_mixed.specs.Polynomial.{Terms}
use Rattle.lift_table.specs.Small.{IsSmall}
use Rattle.lift_table.specs.TablePolynomial.{IsPolynomialOfTable}
use Rattle.job_words.specs.declared.fault.Fault.{Fault}
use Rattle.job_words.specs.declared.fault.Fault.TheVariants.{NotSmall}
use Rattle.job_words.specs.Operands.{Word}
use Rattle.job_input.specs.Labelling.{labels_of}
use Rattle.job_input.specs.SettingValue.{SettingValue}
use Rattle.job_input.specs.TableIn.{TableIn}
use Rattle.answer_core.specs.Reply.{Reply, prints}

-- how many input, state and fed words the input of a table has
abbrev pub table_words : SettingValue → ℕ
table_words setting = length (labels_of setting.k setting.signature.words).words

-- the signature is small enough for tables, or fault 47
abbrev pub SmallEnough : SettingValue → Outcome Fault (Unit {0})
SmallEnough setting (Ok u) = IsSmall setting.k (table_words setting)
SmallEnough setting (Err fault) = (fault ≡ NotSmall) × (IsSmall setting.k (table_words setting) → ⊥)

-- its reply over a table: the line of its one polynomial
abbrev pub LiftReply : SettingValue → List ℕ → Outcome Fault Reply
LiftReply setting table (Ok reply) = (ts : Terms) × IsPolynomialOfTable setting.k setting.product (table_words setting) table ts × (reply ≡ prints setting ts)
LiftReply setting table (Err fault) = ⊥

-- its answer, after the signature was found small: its input is a table
abbrev pub LiftOver : Option Files → SettingValue → Word → Outcome Fault Reply
LiftOver held setting file = do
  table ← TableIn held setting.k (2 ^ (setting.k * table_words setting)) file
  LiftReply setting table

-- its answer, after its signature was taken
abbrev pub LiftAnswer : Option Files → SettingValue → Word → Outcome Fault Reply
LiftAnswer held setting file = do
  small ← SmallEnough setting
  LiftOver held setting file

-- so it is with what the shelf holds
abbrev pub LiftAnswerTo : SettingValue → Word → Option Files → Outcome Fault Reply
LiftAnswerTo setting file held = LiftAnswer held setting file

-- and after the signature was found small
abbrev pub LiftOverTo : SettingValue → Word → Option Files → Outcome Fault Reply
LiftOverTo setting file held = LiftOver held setting file
