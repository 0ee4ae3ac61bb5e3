use Rattle.net_verilog.proofs.ExistsLemmas.{some_instance}
use Rattle.net_verilog.proofs.laws.some_instance_or_fault.Goals as goal

pub returns : goal.returns
returns c = λ declared kind net tokens. some_instance declared kind net tokens
