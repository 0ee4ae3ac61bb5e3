use Rattle.std.proofs.Common.{◌≡◌, drop}
use Rattle.net_core.specs.NetList.{empty, nets}
use Rattle.net_aiger.specs.Nets.{variables_made}
use Rattle.net_aiger.specs.private.Making.{AwaitsPort}
use Rattle.net_aiger.proofs.PortOrder.{next_port}
use Rattle.net_aiger.proofs.make.make_variables.Given as goal

-- what the variables that are left make after what was made, all make
abbrev pub invariant-loop-number : goal.invariant-loop-number
invariant-loop-number l =
    record {
      made : variables_made l.reader 0 l.reader.defined empty ≡ variables_made l.reader l.number (drop l.number l.reader.defined) l.maker;
      long : nets l.maker ≡ l.number;
      awaits : AwaitsPort l.reader (next_port l.reader l.number) l.maker;
    }
