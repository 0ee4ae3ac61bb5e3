use Rattle.std.proofs.Common.{◌≤◌, List, length}
use Rattle.net_core.specs.NetList.{NetList, nets}
use Rattle.net_verilog.specs.Tokens.{TokenValue}
use Rattle.net_verilog.specs.private.Gates.{IsDriverOn, IsStackOn}
use Rattle.net_verilog.specs.private.Standing.{Holding}
use Rattle.net_verilog.specs.Declarations.{Declarations}
use Rattle.net_verilog.proofs.expression.end_all.Given as goal

-- what was held is held still
abbrev pub invariant-loop-ended : goal.invariant-loop-ended
invariant-loop-ended l =
    record {
      held : (declared : Declarations) → (start : NetList) → (tokens : List TokenValue) → (here : List TokenValue) → Holding declared start tokens l.cap l.fn.maker l.fn.stack l.fn.driver here → Holding declared start tokens l.cap l.maker l.stack l.last here;
      on : IsStackOn l.maker l.stack;
      grows : nets l.fn.maker ≤ nets l.maker;
      last : IsDriverOn l.maker l.last;
    }

abbrev pub decreases-loop-ended : goal.decreases-loop-ended
decreases-loop-ended l = length l.stack
