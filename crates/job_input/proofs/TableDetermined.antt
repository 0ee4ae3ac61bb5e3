-- At most one table or fault comes of a text.
use Rattle.std.proofs.Common.{◌≡◌, ◌∙◌, ap, sym, refl, ℕ, List, Result, Ok, Err}
use Rattle.std.specs.Str.Lines.{lines}
use Rattle.outcome.specs.Outcome.{Determined}
use Rattle.lift_table.specs.declared.fault.TableFault.{TableFault}
use Rattle.lift_table.specs.declared.fault.TableFault.TheVariants as text
use Rattle.lift_table.proofs.OneOutcomeLemmas.{determined}
use Rattle.job_words.specs.declared.table_text_fault.TableTextFault.{TableTextFault}
use Rattle.job_words.specs.declared.table_text_fault.TableTextFault.TheVariants as table
use Rattle.job_input.specs.TableIn.{TableOf, table_fault_of}

-- the fault of a table that a fault of its text is; out of memory is taken as any other
back_fault : TableFault → TableTextFault
back_fault (text.Syntax line) = table.Syntax line
back_fault (text.TooLarge line) = table.TooLarge line
back_fault text.OutOfMemory = table.Syntax 0

there_and_back : (fault : TableTextFault) → back_fault (table_fault_of fault) ≡ fault
unfolding back_fault
there_and_back (table.Syntax line) = refl
there_and_back (table.TooLarge line) = refl

back_result : Result (List ℕ) TableFault → Result (List ℕ) TableTextFault
back_result (Ok values) = Ok values
back_result (Err fault) = Err (back_fault fault)

pub table_determined : (k n : ℕ) (bytes : List ℕ) → Determined (TableOf k n bytes)
unfolding back_result
table_determined k n bytes (Ok a) (Ok b) p q = ap back_result (determined k n (lines bytes) (Ok a) (Ok b) p q)
table_determined k n bytes (Ok a) (Err e) p q = ap back_result (determined k n (lines bytes) (Ok a) (Err (table_fault_of e)) p q) ∙ ap Err (there_and_back e)
table_determined k n bytes (Err d) (Ok b) p q = sym (ap Err (there_and_back d)) ∙ ap back_result (determined k n (lines bytes) (Err (table_fault_of d)) (Ok b) p q)
table_determined k n bytes (Err d) (Err e) p q =
    sym (ap Err (there_and_back d)) ∙ (ap back_result (determined k n (lines bytes) (Err (table_fault_of d)) (Err (table_fault_of e)) p q) ∙ ap Err (there_and_back e))
