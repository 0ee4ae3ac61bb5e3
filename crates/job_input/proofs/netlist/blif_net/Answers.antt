use Rattle.job_input.proofs.NetlistLemmas.{text_refused, model_refused}
use Rattle.job_input.proofs.netlist.blif_net.Goals as goal

pub returns-in-Err : goal.returns-in-Err
returns-in-Err c = record { fits = rw c.text_fault.ensures (text_refused c.args.text.items c.in-Err.fault c.in-Err.ensures.fault) }

pub returns-in-Err-flatten_design : goal.returns-in-Err-flatten_design
returns-in-Err-flatten_design c = record { fits = rw c.model_fault.ensures (model_refused c.args.text.items c.in-Ok.design c.in-Ok.ensures.read c.in-Err-flatten_design.fault c.in-Err-flatten_design.ensures.fault) }
