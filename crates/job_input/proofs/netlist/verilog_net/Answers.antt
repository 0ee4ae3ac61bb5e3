use Rattle.job_input.proofs.NetlistLemmas.{verilog_refused}
use Rattle.job_input.proofs.netlist.verilog_net.Goals as goal

pub returns-in-Ok : goal.returns-in-Ok
returns-in-Ok c = record { fits = rw c.deref.ensures.value at c.in-Ok.ensures.net }

pub returns : goal.returns
returns c = record { fits = rw c.verilog_fault.ensures (verilog_refused c.args.text.items c.in-Err.fault (rw c.deref.ensures.value at c.in-Err.ensures.fault)) }
