use Rattle.net_verilog.specs.private.Places.{left}
use Rattle.verilog_reader.proofs.ReadingLemmas.{name_limit}
use Rattle.verilog_reader.proofs.names.read_name.Goals as goal

pub returns-in-Err-make_ports-clause-fault : goal.returns-in-Err-make_ports-clause-fault
returns-in-Err-make_ports-clause-fault c = name_limit c.args.range c.args.direction (c.args.declared.now, c.args.maker.now) (left c.args.place.now) (left c.in-Ok.found.1) c.in-Ok.found.0.0 c.in-Ok.found.0.1.now c.declare.new.declared c.in-Err-make_ports.fault c.in-Ok.ensures.found c.in-Ok-declare.ensures.made c.in-Err-make_ports.ensures.fault
