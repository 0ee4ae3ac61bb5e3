use Rattle.verilog_reader.proofs.AssignedLemmas.{assigned_value}
use Rattle.verilog_reader.proofs.laws.assigned_targets_have_the_values_of_their_expressions.Goals as goal

pub returns : goal.returns
returns c = assigned_value
