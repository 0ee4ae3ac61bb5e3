use Rattle.std.proofs.Common.{◌<◌, subst}
use Rattle.net_core.specs.NetList.{nets}
use Rattle.net_words.specs.Binding.{BoundNet}
use Rattle.net_words.proofs.RankLemmas.{net_within}
use Rattle.net_words.proofs.combinational.Combinational.net_of.Goals as goal

pub returns-clause-within : goal.returns-clause-within
returns-clause-within c =
    let P : BoundNet → Type 0 = λ b. c.args.rank < nets b.net → c.net_of.result < nets b.net in
    subst P c.self.view_is (net_within c.self.inside.net c.self.inside.binding c.args.rank c.net_of.result c.self.invariant.0 c.self.invariant.1 c.net_of.ensures)
