use Rattle.lift_table.proofs.PolynomialLemmas.{output_at}
use Rattle.lift_table.proofs.laws.table_polynomials_are_outputs.Goals as goal

pub returns : goal.returns
returns c = output_at
