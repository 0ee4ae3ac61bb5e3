use Rattle.std.proofs.Common.{◌≡◌, ◌+◌, ◌-◌, ◌≤◌, length}
use Rattle.rato_reduce.specs.private.LowBits.{CopiesLow}
use Rattle.rato_reduce.proofs.united.copy_low.Given as goal

abbrev pub invariant-loop-at : goal.invariant-loop-at
invariant-loop-at l = record {
  copied : CopiesLow l.bits l.from l.at l.rank l.initial.list.items l.list.items;
  within : l.at ≤ length l.bits;
  few : l.list.len + (length l.bits - l.at) ≡ l.initial.list.len + (length l.bits - l.from);
  room : l.list.cap ≡ l.initial.list.cap;
}

abbrev pub decreases-loop-at : goal.decreases-loop-at
decreases-loop-at l = length l.bits - l.at
