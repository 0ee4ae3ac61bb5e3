use Rattle.std.proofs.Common.{◌<◌, subst}
use Rattle.net_core.specs.NetList.{nets}
use Rattle.net_words.specs.Binding.{BoundNet}
use Rattle.net_words.specs.OneCycle.{IsOneCycle}
use Rattle.net_words.proofs.RankLemmas.{rank_within}
use Rattle.net_words.proofs.combinational.Combinational.rank_of.Goals as goal

pub returns-clause-within : goal.returns-clause-within
returns-clause-within c =
    let P : BoundNet → Type 0 = λ b. c.args.net < nets b.net → c.rank_of.result < nets b.net in
    subst P c.self.view_is (rank_within c.self.inside.net c.self.inside.binding c.rank_of.result c.args.net c.self.invariant.0 c.self.invariant.1 c.rank_of.ensures)

pub returns-clause-is_bound : goal.returns-clause-is_bound
returns-clause-is_bound c =
    let P : BoundNet → Type 0 = λ b. IsOneCycle b.net b.binding in
    subst P c.self.view_is c.self.invariant.1
