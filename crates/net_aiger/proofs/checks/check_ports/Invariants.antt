use Rattle.std.proofs.Common.{◌≡◌, drop}
use Rattle.net_aiger.specs.Checks.{apart}
use Rattle.net_aiger.specs.private.Shared.{HasNoneAlone}
use Rattle.net_aiger.proofs.checks.check_ports.Given as goal

-- the names so far are apart
abbrev pub invariant-loop-port : goal.invariant-loop-port
invariant-loop-port l =
    record {
      same : apart l.reader 0 l.fn.names l.ports ≡ apart l.reader l.port l.names (drop l.port l.ports);
      none : HasNoneAlone l.reader l.port l.names;
    }
