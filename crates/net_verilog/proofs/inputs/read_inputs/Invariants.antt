use Rattle.std.proofs.Common.{◌≤◌, ◌<◌, ◌+◌, All, [], length, ℕ, List, Result}
use Rattle.net_core.specs.NetList.{NetList, nets}
use Rattle.net_verilog.specs.Tokens.{TokenValue}
use Rattle.net_verilog.specs.Instances.{ReadsInput}
use Rattle.net_verilog.specs.Several.{Several}
use Rattle.net_verilog.specs.private.Places.{left}
use Rattle.net_verilog.specs.declared.fault.VerilogFault.{VerilogFault}
use Rattle.net_verilog.proofs.inputs.read_inputs.Given as goal

-- what comes of the rest comes of the whole
abbrev pub invariant-loop-next : goal.invariant-loop-next
invariant-loop-next l =
    record {
      onward : (outcome : Result ((NetList × List ℕ) × List TokenValue) VerilogFault) → Several (ReadsInput l.declared) (l.maker, l.inputs.items) (left l.here) outcome → Several (ReadsInput l.declared) (l.fn.maker, []) (left l.place) outcome;
      on : All (λ n. n < nets l.maker) l.inputs.items;
      grows : nets l.fn.maker ≤ nets l.maker;
      shorter : length l.here.rest.now ≤ length l.place.rest.now;
      few : length l.inputs.items + length l.here.rest.now ≤ length l.place.rest.now;
    }

abbrev pub decreases-loop-next : goal.decreases-loop-next
decreases-loop-next l = length l.here.rest.now
