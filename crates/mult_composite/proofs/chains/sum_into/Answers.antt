use Rattle.std.proofs.Common.{Some}
use Rattle.std.proofs.lemmas.Result.{on_ok_weaker}
use Rattle.mult_composite.proofs.ListLemmas.{chain_few}
use Rattle.mult_composite.proofs.chains.sum_into.Goals as goal

pub returns-clause-next : goal.returns-clause-next
returns-clause-next c = on_ok_weaker c.chain_into.result (chain_few (Some c.args.out) c.args.list.now c.args.plan.now c.chain_into.new.self) c.chain_into.ensures
