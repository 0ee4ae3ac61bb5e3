use Rattle.net_simplify.proofs.SettleLemmas.{shared_done}
use Rattle.net_simplify.proofs.settling.share.Goals as goal

pub returns-clause-step : goal.returns-clause-step
returns-clause-step c = λ net ends gates i step chosen. shared_done net ends gates i c.args.gate.now c.args.known.now c.set.new.self c.args.catalog.now _ c.out.result c.out-2.result c.args.form _ c.out.ensures c.out-2.ensures c.requires.out c.set.ensures.long c.set.ensures.units c.set.ensures.bodies c.requires.more c.in_ok-unit.ensures step chosen
