use Rattle.net_verilog.specs.private.Places.{left}
use Rattle.net_verilog.proofs.AfterLemmas.{over}
use Rattle.net_verilog.proofs.AssignLemmas.{assign_expression, assign_limit, assign_made, assign_sign, assign_target}
use Rattle.net_verilog.proofs.assign.read_assignment.Goals as goal

pub returns-in-Err-clause-fault : goal.returns-in-Err-clause-fault
returns-in-Err-clause-fault c = over (assign_target c.args.declared.now c.args.maker.now (left c.args.place.now) c.in-Err.fault) c.in-Err.ensures.fault

pub returns-in-Err-take-clause-fault : goal.returns-in-Err-take-clause-fault
returns-in-Err-take-clause-fault c = over (assign_sign c.args.declared.now c.args.maker.now c.read_net.new.maker (left c.args.place.now) (left c.in-Ok.found.1) c.in-Ok.found.0 c.in-Ok.ensures.made c.in-Err-take.fault) c.in-Err-take.ensures.fault

pub returns-in-Err-read_expression-clause-fault : goal.returns-in-Err-read_expression-clause-fault
returns-in-Err-read_expression-clause-fault c = over (assign_expression c.args.declared.now c.args.maker.now c.read_net.new.maker (left c.args.place.now) (left c.in-Ok.found.1) (left c.in-Ok-take.found.1) c.in-Ok.found.0 c.in-Ok-take.found.0 c.in-Ok.ensures.made c.in-Ok-take.ensures.found c.in-Err-read_expression.fault) c.in-Err-read_expression.ensures.fault

pub returns-in-Ok-drive-clause-made : goal.returns-in-Ok-drive-clause-made
returns-in-Ok-drive-clause-made c = assign_made c.args.declared.now c.args.maker.now c.read_net.new.maker (left c.args.place.now) (left c.in-Ok.found.1) (left c.in-Ok-take.found.1) c.in-Ok.found.0 c.in-Ok-take.found.0 c.in-Ok.ensures.made c.in-Ok-take.ensures.found (record { net = c.read_expression.new.maker; driver = c.in-Ok-read_expression.found.0; rest = left c.in-Ok-read_expression.found.1 }) c.drive.new.maker c.in-Ok-read_expression.ensures.read c.in-Ok-drive.ensures.made

pub returns-in-Err-drive-clause-fault : goal.returns-in-Err-drive-clause-fault
returns-in-Err-drive-clause-fault c = assign_limit c.args.declared.now c.args.maker.now c.read_net.new.maker (left c.args.place.now) (left c.in-Ok.found.1) (left c.in-Ok-take.found.1) c.in-Ok.found.0 c.in-Ok-take.found.0 c.in-Ok.ensures.made c.in-Ok-take.ensures.found (record { net = c.read_expression.new.maker; driver = c.in-Ok-read_expression.found.0; rest = left c.in-Ok-read_expression.found.1 }) c.in-Err-drive.fault c.in-Ok-read_expression.ensures.read c.in-Err-drive.ensures.fault
