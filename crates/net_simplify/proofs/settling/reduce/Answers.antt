use Rattle.net_simplify.proofs.SettleLemmas.{reduced_done}
use Rattle.net_simplify.proofs.settling.reduce.Goals as goal

pub returns-clause-step : goal.returns-clause-step
returns-clause-step c = λ catalog net ends gates i step chosen. reduced_done net ends gates i c.args.gate.now c.args.known.now c.set.new.self catalog c.out.result c.args.form _ c.out.ensures c.requires.out c.set.ensures.long c.set.ensures.units c.set.ensures.bodies c.requires.few c.in_ok-body.ensures step chosen
