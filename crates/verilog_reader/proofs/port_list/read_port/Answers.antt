use Rattle.std.proofs.Common.{refl, sym}
use Rattle.net_verilog.specs.private.Places.{left}
use Rattle.verilog_reader.proofs.port_list.read_port.Goals as goal

pub returns-in-Ok-read_name-clause-made : goal.returns-in-Ok-read_name-clause-made
returns-in-Ok-read_name-clause-made c = (((c.in-Ok.found.0.direction, c.in-Ok.found.0.range), left c.in-Ok.found.1), sym c.in-Ok.ensures.found, (((c.read_name.new.declared, c.read_name.new.maker), left c.in-Ok-read_name.after), c.in-Ok-read_name.ensures.made, refl))
