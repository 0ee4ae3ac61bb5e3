use Rattle.std.proofs.Common.{subst}
use Rattle.std.proofs.lemmas.Result.{MatchResult-weaker}
use Rattle.net_core.specs.NetList.{NetList}
use Rattle.net_core.specs.Order.{IsOrder}
use Rattle.net_core.proofs.level_order.order.Goals as goal

pub returns : goal.returns
returns c =
    MatchResult-weaker c.order_by.result c.order_by.ensures (λ order is.
    let P : NetList → Type 0 = λ net. IsOrder net c.levels.result.now order.items in
    (c.levels.result.now, c.levels.ensures.0, subst P c.made.ensures.made is)) (λ fault w. w)
