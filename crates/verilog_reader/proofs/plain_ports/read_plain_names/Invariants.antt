use Rattle.std.proofs.Common.{◌≤◌, length, List, Result}
use Rattle.net_verilog.specs.Tokens.{TokenValue}
use Rattle.net_verilog.specs.Several.{Several}
use Rattle.net_verilog.specs.private.Places.{left}
use Rattle.net_verilog.specs.declared.fault.VerilogFault.{VerilogFault}
use Rattle.verilog_reader.specs.Items.{State}
use Rattle.verilog_reader.specs.Modules.{PlainPort}
use Rattle.verilog_reader.proofs.plain_ports.read_plain_names.Given as goal

-- what comes of the rest comes of the whole
abbrev pub invariant-loop-found : goal.invariant-loop-found
invariant-loop-found l =
    record {
      onward : (state : State) (outcome : Result (State × List TokenValue) VerilogFault) → Several PlainPort state (left l.here) outcome → Several PlainPort state (left l.place) outcome;
      shorter : length l.here.rest.now ≤ length l.place.rest.now;
    }

abbrev pub decreases-loop-found : goal.decreases-loop-found
decreases-loop-found l = length l.here.rest.now
