use Rattle.std.proofs.Common.{◌≤◌, length, List, Result, None}
use Rattle.net_verilog.specs.Tokens.{TokenValue}
use Rattle.net_verilog.specs.Several.{Several}
use Rattle.net_verilog.specs.declared.declared.Direction.TheVariants.{Wire}
use Rattle.net_verilog.specs.private.Decimals.{IsSmall}
use Rattle.net_verilog.specs.private.Places.{left}
use Rattle.net_verilog.specs.declared.fault.VerilogFault.{VerilogFault}
use Rattle.verilog_reader.specs.Items.{State}
use Rattle.verilog_reader.specs.Modules.{Head, ReadsPort}
use Rattle.verilog_reader.proofs.port_list.read_ports.Given as goal

-- what comes of the rest comes of the whole
abbrev pub invariant-loop-found : goal.invariant-loop-found
invariant-loop-found l =
    record {
      onward : (outcome : Result ((Head × State) × List TokenValue) VerilogFault) → Several ReadsPort ((l.head.direction, l.head.range), (l.declared, l.maker)) (left l.here) outcome → Several ReadsPort ((Wire, None), (l.fn.declared, l.fn.maker)) (left l.place) outcome;
      small : IsSmall l.head.range;
      shorter : length l.here.rest.now ≤ length l.place.rest.now;
    }

abbrev pub decreases-loop-found : goal.decreases-loop-found
decreases-loop-found l = length l.here.rest.now
