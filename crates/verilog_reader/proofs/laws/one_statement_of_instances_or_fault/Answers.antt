use Rattle.verilog_reader.proofs.ReadDetermined.{instances_determined}
use Rattle.verilog_reader.proofs.laws.one_statement_of_instances_or_fault.Goals as goal

pub returns : goal.returns
returns c = instances_determined
