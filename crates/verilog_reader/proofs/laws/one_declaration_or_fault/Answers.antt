use Rattle.verilog_reader.proofs.ReadDetermined.{names_determined}
use Rattle.verilog_reader.proofs.laws.one_declaration_or_fault.Goals as goal

pub returns : goal.returns
returns c = names_determined
