use Rattle.job_input.proofs.NetlistLemmas.{aiger_refused}
use Rattle.job_input.proofs.netlist.aiger_net.Goals as goal

pub returns-in-Ok : goal.returns-in-Ok
returns-in-Ok c = record { fits = rw c.deref.ensures.value at c.in-Ok.ensures.net }

pub returns : goal.returns
returns c = record { fits = rw c.aiger_fault.ensures (aiger_refused c.args.text.items c.in-Err.fault (rw c.deref.ensures.value at c.in-Err.ensures.fault)) }
