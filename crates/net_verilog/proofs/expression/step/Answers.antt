use Rattle.std.proofs.Common.{subst, Option}
use Rattle.net_verilog.specs.private.Places.{left}
use Rattle.net_verilog.specs.private.Standing.{Met}
use Rattle.net_verilog.specs.declared.operator.Driver.{Driver}
use Rattle.net_verilog.proofs.AfterLemmas.{over}
use Rattle.net_verilog.proofs.expression.step.Goals as goal

pub returns-in-Err-clause-fault : goal.returns-in-Err-clause-fault
returns-in-Err-clause-fault c = over (λ refuses start tokens h. let P : Option Driver → Type 0 = λ last. Met c.args.declared.now start tokens c.args.maker.now c.args.stack.now last (left c.args.place.now) in refuses start tokens (subst P c.in-None.is h)) c.in-Err.ensures.fault

pub returns-in-Err-go_on-clause-fault : goal.returns-in-Err-go_on-clause-fault
returns-in-Err-go_on-clause-fault c = over (λ refuses start tokens h. let P : Option Driver → Type 0 = λ last. Met c.args.declared.now start tokens c.args.maker.now c.args.stack.now last (left c.args.place.now) in refuses c.args.declared.now start tokens (subst P c.in-Some.is h)) c.in-Err-go_on.ensures.fault
