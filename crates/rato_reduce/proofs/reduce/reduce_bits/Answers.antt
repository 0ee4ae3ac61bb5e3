use Rattle.std.proofs.Common.{ℕ, List, sym, subst}
use Rattle.net_core.specs.NetList.{NetList}
use Rattle.net_core.specs.Order.{IsElimination}
use Rattle.rato_reduce.proofs.reduce.reduce_bits.Goals as goal

pub reduce_in_order-requires-clause-order : goal.reduce_in_order-requires-clause-order
reduce_in_order-requires-clause-order g c =
    let P : List ℕ → Type 0 = IsElimination c.args.circuit.now.net in
    let E : NetList → Type 0 = λ net. IsElimination net c.in_ok-order.order.items in
    subst P (sym c.deref.ensures.value) (subst E c.net-net.ensures.net c.in_ok-order.ensures)
