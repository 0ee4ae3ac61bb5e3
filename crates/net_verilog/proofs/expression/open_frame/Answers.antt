use Rattle.std.proofs.Common.{rules, ◌≤◌}
use Rattle.net_verilog.specs.private.Places.{value_of}
use Rattle.net_verilog.specs.private.Steps.{count_open}
use Rattle.net_verilog.proofs.StepLemmas.{too_many}
use Rattle.net_verilog.proofs.expression.open_frame.Goals as goal

pub returns-then-open-ge1024-clause-fault : goal.returns-then-open-ge1024-clause-fault
returns-then-open-ge1024-clause-fault c =
    let many : 1024 ≤ count_open c.args.stack.now = search rules in
    too_many (count_open c.args.stack.now) (value_of c.args.token.now) c.left_out.result many c.left_out.ensures
