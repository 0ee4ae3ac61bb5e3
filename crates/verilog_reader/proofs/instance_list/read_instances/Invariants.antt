use Rattle.std.proofs.Common.{◌≤◌, length, List, Result}
use Rattle.net_core.specs.NetList.{NetList}
use Rattle.net_verilog.specs.Tokens.{TokenValue}
use Rattle.net_verilog.specs.Instances.{ReadsInstance}
use Rattle.net_verilog.specs.Several.{Several}
use Rattle.net_verilog.specs.private.Places.{left}
use Rattle.net_verilog.specs.declared.fault.VerilogFault.{VerilogFault}
use Rattle.verilog_reader.proofs.instance_list.read_instances.Given as goal

-- what comes of the rest comes of the whole
abbrev pub invariant-loop-next : goal.invariant-loop-next
invariant-loop-next l =
    record {
      onward : (outcome : Result (NetList × List TokenValue) VerilogFault) → Several (ReadsInstance l.declared l.kind) l.maker (left l.here) outcome → Several (ReadsInstance l.declared l.kind) l.fn.maker (left l.place) outcome;
      shorter : length l.here.rest.now ≤ length l.place.rest.now;
    }

abbrev pub decreases-loop-next : goal.decreases-loop-next
decreases-loop-next l = length l.here.rest.now
