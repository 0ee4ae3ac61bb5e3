-- What comes of the file of a table. Source: this project's own, docs/FORMATS.md.
use Rattle.std.specs.Prelude.{ℕ, List, Option, Ok, Err}
use Rattle.outcome.specs.Outcome.{Outcome, ◌>>=◌, Within}
use Rattle.job_io.specs.Shelf.{Files}
use Rattle.lift_table.specs.TableText.{TableOutcome}
use Rattle.lift_table.specs.declared.fault.TableFault.{TableFault}
use Rattle.lift_table.specs.declared.fault.TableFault.TheVariants as text
use Rattle.job_words.specs.declared.fault.Fault.{Fault}
use Rattle.job_words.specs.declared.fault.Fault.TheVariants.{File, Table}
use Rattle.job_words.specs.declared.table_text_fault.TableTextFault.{TableTextFault}
use Rattle.job_words.specs.declared.table_text_fault.TableTextFault.TheVariants as table
use Rattle.job_words.specs.Operands.{Word}
use Rattle.job_input.specs.File.{Read}

-- the fault of the text that a fault of a table is
abbrev pub table_fault_of : TableTextFault → TableFault
table_fault_of (table.Syntax line) = text.Syntax line
table_fault_of (table.TooLarge line) = text.TooLarge line

-- the table of n values below 2 to the k of a text, or the fault of its first line that has one
abbrev pub TableOf : ℕ → ℕ → List ℕ → Outcome TableTextFault (List ℕ)
TableOf k n bytes (Ok values) = TableOutcome k n bytes (Ok values)
TableOf k n bytes (Err fault) = TableOutcome k n bytes (Err (table_fault_of fault))

-- the table of a file: it is read, and its text taken
abbrev pub TableIn : Option Files → ℕ → ℕ → Word → Outcome Fault (List ℕ)
TableIn held k n file = do
  bytes ← Within File (Read held file)
  Within Table (TableOf k n bytes)
