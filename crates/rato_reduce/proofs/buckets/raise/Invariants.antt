use Rattle.std.proofs.Common.{◌≡◌, suc, ◌-◌, length}
use Rattle.rato_reduce.specs.private.Buckets.{joined, StayLevelled}
use Rattle.rato_reduce.proofs.buckets.raise.Given as goal

abbrev pub invariant-loop-alloc : goal.invariant-loop-alloc
invariant-loop-alloc l = record {
  joined : joined l.list.items ≡ joined l.initial.list.items;
  levelled : StayLevelled l.initial.list.items l.list.items;
}

abbrev pub decreases-loop-alloc : goal.decreases-loop-alloc
decreases-loop-alloc l = suc l.level - length l.list.items
