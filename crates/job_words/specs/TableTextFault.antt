-- The texts of faults of tables. Source: this project's own texts, docs/COMMANDS.md.
use Rattle.std.specs.Prelude.{ℕ, List, ◌++◌, codes}
use Rattle.std.specs.Fmt.{decimal}
use Rattle.job_words.specs.declared.table_text_fault.TableTextFault.{TableTextFault}
use Rattle.job_words.specs.declared.table_text_fault.TableTextFault.TheVariants as table

-- the number and the text of a table's fault
abbrev pub table_text : TableTextFault → List ℕ
table_text (table.Syntax line) = codes "56: table line " ++ decimal line
table_text (table.TooLarge line) = codes "57: value too large at line " ++ decimal line
