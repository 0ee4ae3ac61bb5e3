-- What the answers of `table` and `lift` say of the job in the files. Source: Lidl and Niederreiter, Finite Fields, chapter 7;
-- the text of tables is this project's own.
use Rattle.std.specs.Prelude.{◌≡◌, ℕ, ◌*◌, ◌^◌, List, Some, Ok}
use Rattle.job_io.specs.Shelf.{Files}
use Rattle.poly_mixed.specs.Polynomial.{Terms}
use Rattle.circuit_model.specs.Circuit.{Circuit}
use Rattle.lift_table.specs.CircuitTable.{IsTableOf}
use Rattle.lift_table.specs.TablePolynomial.{IsPolynomialOfTable}
use Rattle.lift_table.specs.TableText.{TableOutcome, table_text}
use Rattle.job_words.specs.Command.{Lift, Table, Over, IsSpelled}
use Rattle.job_words.specs.Operands.{Word}
use Rattle.job_input.specs.File.{Read}
use Rattle.job_input.specs.SettingOf.{SettingOf}
use Rattle.job_input.specs.SettingValue.{SettingValue}
use Rattle.gf_abs.specs.Answer.{Answer}
use Rattle.gf_abs.specs.Headline.{AnswersAbstract}
use Rattle.answer_core.specs.Printed.{AreHeld}
use Rattle.answer_core.specs.Reply.{Reply, polynomial_line}
use Rattle.answer_tables.specs.Lift.{table_words}

-- to the words `table SIGNATURE NET` over the held files the program answers with this reply, over so many cycles after the first
pub record AnswersTable (files : Files) (words : List Word) (signature net : Word) (cycles : ℕ) (reply : Reply) : Type 0 where
  pub spelled : IsSpelled words (Over signature (Table net cycles))
  pub answer : Answer words (Some files) (Ok reply)

-- and to the words `lift SIGNATURE TABLE` with this one
pub record AnswersLift (files : Files) (words : List Word) (signature table : Word) (reply : Reply) : Type 0 where
  pub spelled : IsSpelled words (Over signature (Lift table))
  pub answer : Answer words (Some files) (Ok reply)

-- the held file of this name gives the setting
pub record IsHeldSetting (files : Files) (signature : Word) (setting : SettingValue) : Type 0 where
  pub bytes : List ℕ
  pub read : Read (Some files) signature (Ok bytes)
  pub is_setting : SettingOf bytes (Ok setting)

-- the reply is the text of the table of the job's output: a row for each input, with the output there
pub record PrintsTable (job : Circuit) (reply : Reply) : Type 0 where
  pub table : List ℕ
  pub outputs : IsTableOf job table
  pub status : reply.status ≡ 0
  pub text : reply.text ≡ table_text table

-- the held file of this name is a table for the setting's words, and the reply is the line of its one polynomial
pub record PrintsLifted (files : Files) (setting : SettingValue) (file : Word) (reply : Reply) : Type 0 where
  pub bytes : List ℕ
  pub read : Read (Some files) file (Ok bytes)
  pub table : List ℕ
  pub is_table : TableOutcome setting.k (2 ^ (setting.k * table_words setting)) bytes (Ok table)
  pub polynomial : Terms
  pub of_table : IsPolynomialOfTable setting.k setting.product (table_words setting) table polynomial
  pub status : reply.status ≡ 0
  pub line : reply.text ≡ polynomial_line setting polynomial

-- the held files give a job, and the reply is the text of its table
pub record PrintsHeldTable (files : Files) (signature net : Word) (cycles : ℕ) (reply : Reply) : Type 0 where
  pub setting : SettingValue
  pub job : Circuit
  pub held : AreHeld files signature net cycles setting job
  pub printed : PrintsTable job reply

-- the held file of the signature gives a setting, for whose words the other is a table, and the reply is the line of its polynomial
pub record PrintsHeldLift (files : Files) (signature file : Word) (reply : Reply) : Type 0 where
  pub setting : SettingValue
  pub held : IsHeldSetting files signature setting
  pub printed : PrintsLifted files setting file reply

-- what is said of each reply of `table` over held files
abbrev pub EachTableReply : (Files → (signature net : Word) → (cycles : ℕ) → Reply → Type 0) → Type 0
EachTableReply Says = (files : Files) (words : List Word) (signature net : Word) (cycles : ℕ) (reply : Reply)
    → AnswersTable files words signature net cycles reply → Says files signature net cycles reply

-- of each reply of `lift`
abbrev pub EachLiftReply : (Files → (signature table : Word) → Reply → Type 0) → Type 0
EachLiftReply Says = (files : Files) (words : List Word) (signature table : Word) (reply : Reply) → AnswersLift files words signature table reply → Says files signature table reply

-- where `abstract` and `table` have a reply over the same files, and `lift` has one over a signature of the same setting and a file that
-- holds what `table` printed, `lift` prints the bytes of `abstract`
abbrev pub TablesAreLiftedToAbstract : Type 0
TablesAreLiftedToAbstract = (files files' : Files) (words words' words'' : List Word) (signature signature' net table : Word) (cycles : ℕ) (reply tabled lifted : Reply) (setting : SettingValue) (job : Circuit)
    → AnswersAbstract files words signature net cycles reply → AnswersTable files words' signature net cycles tabled → AreHeld files signature net cycles setting job
    → AnswersLift files' words'' signature' table lifted → IsHeldSetting files' signature' setting → Read (Some files') table (Ok tabled.text) → lifted.text ≡ reply.text
