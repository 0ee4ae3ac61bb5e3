use Rattle.std.proofs.Common.{◌≡◌, ◌≤◌, ◌+◌, drop, length}
use Rattle.net_core.specs.NetList.{nets}
use Rattle.net_aiger.specs.Nets.{outputs_made}
use Rattle.net_aiger.specs.private.Making.{Awaits}
use Rattle.net_aiger.proofs.make.make_outputs.Given as goal

-- what the outputs that are left make after what was made, all make
abbrev pub invariant-loop-literal : goal.invariant-loop-literal
invariant-loop-literal l =
    record {
      place : l.port ≡ l.first + l.literal-index;
      made : outputs_made l.reader l.first l.literals l.fn.maker ≡ outputs_made l.reader l.port (drop l.literal-index l.literals) l.maker;
      long : length l.reader.defined ≤ nets l.maker;
      awaits : Awaits l.reader l.port (drop l.literal-index l.literals) l.maker;
    }
