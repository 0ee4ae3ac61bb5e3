use Rattle.net_verilog.proofs.StatementDetermined.{instance_determined}
use Rattle.net_verilog.proofs.laws.one_instance_or_fault.Goals as goal

pub returns : goal.returns
returns c = instance_determined
