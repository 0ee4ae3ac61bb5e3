use Rattle.std.proofs.Common.{rules, ◌≤◌, arith}
use Rattle.net_verilog.specs.declared.operator.Frame.TheVariants as frames
use Rattle.net_verilog.proofs.StepLemmas.{not_step, not_fault, right_step, right_fault, on_popped}
use Rattle.net_verilog.proofs.expression.end_one.Goals as goal

pub returns-in-Ok-clause-ended : goal.returns-in-Ok-clause-ended
returns-in-Ok-clause-ended c = not_step c.args.stack.now c.pop.new.self c.in-Some-Not.line c.in-Ok.net c.args.cap c.args.maker.now c.settle.new.maker c.args.driver (search rules) c.pop.ensures c.in-Ok.ensures.made

pub returns-in-Ok-clause-on : goal.returns-in-Ok-clause-on
returns-in-Ok-clause-on c = on_popped c.args.maker.now c.settle.new.maker c.args.stack.now c.pop.new.self (frames.Not c.in-Some-Not.line) (search rules) c.pop.ensures c.in-Ok.ensures.grows c.requires.on

pub returns-in-Err-clause-fault : goal.returns-in-Err-clause-fault
returns-in-Err-clause-fault c = not_fault c.args.stack.now c.in-Some-Not.line c.args.cap c.args.maker.now c.args.driver c.in-Err.fault (search rules) c.in-Err.ensures.fault

pub returns-in-Ok-settle-clause-ended : goal.returns-in-Ok-settle-clause-ended
returns-in-Ok-settle-clause-ended c =
    let below : c.looseness.result ≤ c.args.cap = search rules in
    right_step c.args.stack.now c.pop-in-Ok-settle.new.self c.in-Some-Left.line c.in-Some-Left.left c.in-Ok-settle.right c.args.cap c.looseness.result c.in-Some-Left.operator c.args.maker.now c.settle-in-Some-Left.new.maker c.args.driver (search rules) c.pop-in-Ok-settle.ensures c.looseness.ensures.same below c.in-Ok-settle.ensures.made

pub returns-in-Ok-settle-clause-on : goal.returns-in-Ok-settle-clause-on
returns-in-Ok-settle-clause-on c = on_popped c.args.maker.now c.settle-in-Some-Left.new.maker c.args.stack.now c.pop-in-Ok-settle.new.self (frames.Left c.in-Some-Left.line c.in-Some-Left.operator c.in-Some-Left.left) (search rules) c.pop-in-Ok-settle.ensures c.in-Ok-settle.ensures.grows c.requires.on

pub returns-in-Err-settle-clause-fault : goal.returns-in-Err-settle-clause-fault
returns-in-Err-settle-clause-fault c =
    let below : c.looseness.result ≤ c.args.cap = search rules in
    let same = c.looseness.ensures.same in
    right_fault c.args.stack.now c.in-Some-Left.line c.in-Some-Left.left c.args.cap c.in-Some-Left.operator c.args.maker.now c.args.driver c.in-Err-settle.fault (search rules) (omega (arith, below, same)) c.in-Err-settle.ensures.fault
