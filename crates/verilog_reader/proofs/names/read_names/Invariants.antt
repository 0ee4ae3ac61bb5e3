use Rattle.std.proofs.Common.{◌≤◌, length, List, Result}
use Rattle.net_core.specs.NetList.{NetList}
use Rattle.net_verilog.specs.Tokens.{TokenValue}
use Rattle.net_verilog.specs.Declarations.{Declarations}
use Rattle.verilog_reader.specs.Declares.{ReadsName}
use Rattle.net_verilog.specs.Several.{Several}
use Rattle.net_verilog.specs.private.Places.{left}
use Rattle.net_verilog.specs.declared.fault.VerilogFault.{VerilogFault}
use Rattle.verilog_reader.proofs.names.read_names.Given as goal

-- what comes of the rest comes of the whole
abbrev pub invariant-loop-next : goal.invariant-loop-next
invariant-loop-next l =
    record {
      onward : (outcome : Result ((Declarations × NetList) × List TokenValue) VerilogFault) → Several (ReadsName l.range l.direction) (l.declared, l.maker) (left l.here) outcome → Several (ReadsName l.range l.direction) (l.fn.declared, l.fn.maker) (left l.place) outcome;
      shorter : length l.here.rest.now ≤ length l.place.rest.now;
    }

abbrev pub decreases-loop-next : goal.decreases-loop-next
decreases-loop-next l = length l.here.rest.now
