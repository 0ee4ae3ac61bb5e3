use Rattle.lift_table.proofs.TableLemmas.{one_table, table_elements}
use Rattle.lift_table.proofs.laws.one_circuit_table.Goals as goal

pub returns-clause-only : goal.returns-clause-only
returns-clause-only c = λ circuit table other well. one_table circuit well table other

pub returns-clause-elements : goal.returns-clause-elements
returns-clause-elements c = λ circuit table well. table_elements circuit well table
