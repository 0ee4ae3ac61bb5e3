use Rattle.std.proofs.lemmas.Result.{on_ok_weaker}
use Rattle.net_simplify.specs.Uses.{is_single}
use Rattle.net_simplify.proofs.settling.settle.Goals as goal

pub returns-then-leaves-le1-clause-step : goal.returns-then-leaves-le1-clause-step
returns-then-leaves-le1-clause-step c = on_ok_weaker c.reduce.result (λ step net ends gates i is singles. step c.args.catalog.now net ends gates i is (c.in_ok-form.ensures (is_single net ends gates) singles)) c.reduce.ensures.step
