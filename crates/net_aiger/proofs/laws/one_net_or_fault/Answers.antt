use Rattle.net_aiger.proofs.AigerDetermined.{aiger_determined}
use Rattle.net_aiger.proofs.laws.one_net_or_fault.Goals as goal

pub returns : goal.returns
returns c = aiger_determined
