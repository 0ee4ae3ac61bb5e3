use Rattle.job_input.proofs.netlist.blif_design.Goals as goal

pub returns-clause-read : goal.returns-clause-read
returns-clause-read c = rw c.deref.ensures.value at c.read_blif.ensures.read

pub returns-clause-fault : goal.returns-clause-fault
returns-clause-fault c = rw c.deref.ensures.value at c.read_blif.ensures.fault
