use Rattle.net_verilog.specs.private.Places.{left}
use Rattle.net_verilog.proofs.AfterLemmas.{over}
use Rattle.net_verilog.proofs.expression.read_expression.Goals as goal

pub returns-in-Err-clause-fault : goal.returns-in-Err-clause-fault
returns-in-Err-clause-fault c = over (λ refuses. refuses c.args.maker.now (left c.args.place.now) c.loop-driver.invariant.met) c.in-Err.ensures.fault
