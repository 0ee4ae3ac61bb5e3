use Rattle.std.proofs.Common.{◌≡◌, ◌≤◌, drop, length}
use Rattle.net_core.specs.NetList.{nets}
use Rattle.net_aiger.specs.Nets.{ands_made}
use Rattle.net_aiger.proofs.make.make_ands.Given as goal

-- what the lines that are left make after what was made, all make
abbrev pub invariant-loop-line : goal.invariant-loop-line
invariant-loop-line l =
    record {
      made : ands_made l.reader l.lines l.fn.maker ≡ ands_made l.reader (drop l.line-index l.lines) l.maker;
      long : length l.reader.defined ≤ nets l.maker;
    }
