use Rattle.net_verilog.proofs.ExpressionDetermined.{expression_determined}
use Rattle.net_verilog.proofs.laws.one_expression_or_fault.Goals as goal

pub returns : goal.returns
returns c = expression_determined
