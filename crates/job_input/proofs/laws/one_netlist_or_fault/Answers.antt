use Rattle.job_input.proofs.NetlistDetermined.{netlist_determined}
use Rattle.job_input.proofs.laws.one_netlist_or_fault.Goals as goal

pub returns : goal.returns
returns c = netlist_determined
