use Rattle.verilog_reader.proofs.VerilogDetermined.{verilog_determined}
use Rattle.verilog_reader.proofs.laws.one_net_or_fault.Goals as goal

pub returns : goal.returns
returns c = verilog_determined
