use Rattle.std.proofs.Common.{None}
use Rattle.std.proofs.lemmas.Result.{on_ok_weaker}
use Rattle.mult_composite.proofs.ListLemmas.{chain_few}
use Rattle.mult_composite.proofs.chains.sum_of.Goals as goal

pub returns-clause-next : goal.returns-clause-next
returns-clause-next c = on_ok_weaker c.chain.result (chain_few None c.args.list.now c.args.plan.now c.chain.new.self) c.chain.ensures.made
