use Rattle.net_verilog.proofs.StatementDetermined.{assignment_determined}
use Rattle.net_verilog.proofs.laws.one_assignment_or_fault.Goals as goal

pub returns : goal.returns
returns c = assignment_determined
