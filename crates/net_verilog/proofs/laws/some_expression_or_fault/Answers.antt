use Rattle.net_verilog.proofs.SomeExpressionLemmas.{some_expression}
use Rattle.net_verilog.proofs.laws.some_expression_or_fault.Goals as goal

pub returns : goal.returns
returns c = some_expression
