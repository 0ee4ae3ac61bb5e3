use Rattle.std.proofs.Common.{inl}
use Rattle.net_verilog.specs.private.Places.{left}
use Rattle.net_verilog.proofs.AfterLemmas.{over}
use Rattle.net_verilog.proofs.InputLemmas.{input_limit, input_made}
use Rattle.net_verilog.proofs.inputs.read_input.Goals as goal

pub returns-in-Err-clause-fault : goal.returns-in-Err-clause-fault
returns-in-Err-clause-fault c = over (λ refuses. inl refuses) c.in-Err.ensures.fault

pub returns-in-Err-settle-clause-fault : goal.returns-in-Err-settle-clause-fault
returns-in-Err-settle-clause-fault c = input_limit c.args.declared.now c.args.maker.now c.args.inputs.now.items (left c.args.place.now) (record { net = c.read_expression.new.maker; driver = c.in-Ok.found.0; rest = left c.in-Ok.found.1 }) c.in-Ok.ensures.read c.in-Err-settle.fault c.in-Err-settle.ensures.fault

pub returns-clause-made : goal.returns-clause-made
returns-clause-made c = input_made c.args.declared.now c.args.maker.now c.args.inputs.now.items (left c.args.place.now) (record { net = c.read_expression.new.maker; driver = c.in-Ok.found.0; rest = left c.in-Ok.found.1 }) c.in-Ok.ensures.read c.settle.new.maker c.in-Ok-settle.net c.push.new.self.items c.in-Ok-settle.ensures.made c.in_ok-push.ensures.items
