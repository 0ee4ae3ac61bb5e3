use Rattle.net_core.specs.Value.{HasSourceBits}
use Rattle.net_core.proofs.RightGates.{AreRight}
use Rattle.plain_runs.proofs.settle.set_gates.Given as goal

abbrev pub invariant-loop-position : goal.invariant-loop-position
invariant-loop-position l =
    record {
      right : AreRight l.net l.order l.position-index l.bits.items;
      sources : HasSourceBits l.net l.initial.bits.items l.bits.items;
    }
