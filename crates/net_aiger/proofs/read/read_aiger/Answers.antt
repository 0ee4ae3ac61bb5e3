use Rattle.net_aiger.proofs.ReadLemmas.{net_read, net_refused, not_read}
use Rattle.net_aiger.proofs.read.read_aiger.Goals as goal

pub returns-in-Err-clause-fault : goal.returns-in-Err-clause-fault
returns-in-Err-clause-fault c = not_read c.args.bytes.now c.in-Err.fault c.in-Err.ensures.fault

pub returns-clause-net : goal.returns-clause-net
returns-clause-net c = net_read c.args.bytes.now c.in-Ok.reader c.net_of.result c.in-Ok.ensures.made c.net_of.ensures.net

pub returns-clause-fault : goal.returns-clause-fault
returns-clause-fault c = net_refused c.args.bytes.now c.in-Ok.reader c.net_of.result c.in-Ok.ensures.made c.net_of.ensures.fault
