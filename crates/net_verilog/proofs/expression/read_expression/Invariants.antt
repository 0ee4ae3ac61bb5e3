use Rattle.std.proofs.Common.{◌≤◌, length}
use Rattle.net_core.specs.NetList.{nets}
use Rattle.net_verilog.specs.private.Places.{left}
use Rattle.net_verilog.specs.private.Gates.{IsLastOn, IsStackOn}
use Rattle.net_verilog.specs.private.Standing.{Met}
use Rattle.net_verilog.proofs.expression.read_expression.Given as goal

-- what was met so far
abbrev pub invariant-loop-driver : goal.invariant-loop-driver
invariant-loop-driver l =
    record {
      met : Met l.declared l.fn.maker (left l.place) l.maker l.stack l.last (left l.here);
      on : IsStackOn l.maker l.stack;
      last : IsLastOn l.maker l.last;
      grows : nets l.fn.maker ≤ nets l.maker;
      shorter : length l.here.rest.now ≤ length l.place.rest.now;
    }

abbrev pub decreases-loop-driver : goal.decreases-loop-driver
decreases-loop-driver l = length l.here.rest.now
