use Rattle.std.proofs.Common.{◌≡◌, ◌≤◌, ◌<◌, ◌-◌, ◌^◌, length, take}
use Rattle.std.specs.Io.KnownBytes.{Appends}
use Rattle.job_io.proofs.sink.put_all.Given as goal

-- what was taken so far is what was written
abbrev pub invariant-loop-done : goal.invariant-loop-done
invariant-loop-done g l =
    record {
      untouched : length l.piece ≡ 0 → l.sink ≡ l.fn.sink;
      below : g.K.Sink.faults l.fn.sink < 2 ^ 64 → g.K.Sink.faults l.sink < 2 ^ 64;
      within : l.done ≤ length l.piece;
      never_falls : g.K.Sink.faults l.fn.sink ≤ g.K.Sink.faults l.sink;
      written : Appends (g.K.Sink.written l.fn.sink) (g.K.Sink.written l.sink) (take l.done l.piece);
    }

abbrev pub decreases-loop-done : goal.decreases-loop-done
decreases-loop-done g l = length l.piece - l.done
