use Rattle.net_core.specs.Value.{HasValues}
use Rattle.net_core.proofs.RightGates.{AreRight}
use Rattle.net_core.proofs.valuation.values_by.Given as goal

abbrev pub invariant-loop-position : goal.invariant-loop-position
invariant-loop-position l =
    record {
      right : AreRight l.net l.order l.position-index l.bits.items;
      values : HasValues l.net l.values l.bits.items;
    }
