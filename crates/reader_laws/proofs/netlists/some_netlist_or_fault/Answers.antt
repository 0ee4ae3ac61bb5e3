use Rattle.reader_laws.proofs.NetlistExists.{some_netlist, some_netlist_in}
use Rattle.reader_laws.proofs.netlists.some_netlist_or_fault.Goals as goal

pub returns-clause-text : goal.returns-clause-text
returns-clause-text c = some_netlist

pub returns-clause-file : goal.returns-clause-file
returns-clause-file c = some_netlist_in
