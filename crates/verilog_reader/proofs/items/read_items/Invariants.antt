use Rattle.std.proofs.Common.{length, List, Result}
use Rattle.net_verilog.specs.Tokens.{TokenValue}
use Rattle.net_verilog.specs.private.Places.{left}
use Rattle.net_verilog.specs.declared.fault.VerilogFault.{VerilogFault}
use Rattle.verilog_reader.specs.Items.{Items, State}
use Rattle.verilog_reader.proofs.items.read_items.Given as goal

-- what comes of the rest comes of the whole
abbrev pub invariant-loop-here : goal.invariant-loop-here
invariant-loop-here l = (outcome : Result (State × List TokenValue) VerilogFault) → Items (l.declared, l.maker) (left l.here) outcome → Items (l.fn.declared, l.fn.maker) (left l.place) outcome

abbrev pub decreases-loop-here : goal.decreases-loop-here
decreases-loop-here l = length l.here.rest.now
