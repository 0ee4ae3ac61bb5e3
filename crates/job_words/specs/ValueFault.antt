-- The texts of faults of values. Source: this project's own texts, docs/COMMANDS.md.
use Rattle.std.specs.Prelude.{ℕ, List, ◌++◌, codes}
use Rattle.std.specs.Fmt.{decimal}
use Rattle.job_words.specs.declared.value_fault.ValueFault.{ValueFault}
use Rattle.job_words.specs.declared.value_fault.ValueFault.TheVariants as values

-- the number and the text of a fault of values
abbrev pub value_text : ValueFault → List ℕ
value_text (values.WrongCount count words) = codes "48: " ++ (decimal count ++ (codes " values for " ++ (decimal words ++ codes " words")))
value_text (values.TooLarge place) = codes "49: value " ++ (decimal place ++ codes " is too large")
