use Rattle.reader_laws.proofs.VerilogExists.{some_verilog}
use Rattle.reader_laws.proofs.netlists.some_verilog_net_or_fault.Goals as goal

pub returns : goal.returns
returns c = some_verilog
