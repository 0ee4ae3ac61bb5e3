use Rattle.std.proofs.Common.{◌≡◌, ℕ, ◌<◌, length, Some}
use Rattle.std.specs.Prelude.{slice_get}
use Rattle.net_core.specs.LatchValue.{LatchValue}
use Rattle.net_core.specs.NetList.{nets}
use Rattle.net_core.specs.Value.{bit_of}
use Rattle.plain_runs.specs.private.Cycle.{AreKept}
use Rattle.plain_runs.proofs.cycle_bits.set_nexts.Given as goal

abbrev pub invariant-loop-latch : goal.invariant-loop-latch
invariant-loop-latch l =
    record {
      long : length l.bits.items ≡ nets l.net;
      kept : AreKept l.net.inputs l.initial.bits.items l.bits.items;
      done : (k : ℕ) (m : LatchValue) → k < l.latch-index → slice_get l.net.latches k ≡ Some m → bit_of l.bits.items m.out ≡ bit_of l.before m.next;
    }
