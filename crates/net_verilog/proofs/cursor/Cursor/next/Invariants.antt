use Rattle.std.proofs.Common.{◌≡◌, ◌≤◌, length}
use Rattle.net_verilog.specs.private.Places.{left}
use Rattle.net_verilog.proofs.cursor.Cursor.next.Given as goal

-- only white space so far
abbrev pub invariant-loop-kind : goal.invariant-loop-kind
invariant-loop-kind l =
    record {
      same : left l.self ≡ left l.place;
      shorter : length l.place.rest.now ≤ length l.self.rest.now;
    }

abbrev pub decreases-loop-kind : goal.decreases-loop-kind
decreases-loop-kind l = length l.place.rest.now
