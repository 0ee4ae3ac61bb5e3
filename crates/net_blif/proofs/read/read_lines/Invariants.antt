use Rattle.std.proofs.Common.{◌≤◌, ◌+◌, Result, length}
use Rattle.std.specs.Str.Lines.{lines}
use Rattle.net_blif.specs.Lines.{joined, lines_of}
use Rattle.net_blif.specs.Models.{Reading, Reads, start}
use Rattle.net_blif.specs.declared.fault.BlifFault.{BlifFault}
use Rattle.net_blif.proofs.read.read_lines.Given as goal

-- what the rest may give after what was read, the whole may give
abbrev pub invariant-loop-rest : goal.invariant-loop-rest
invariant-loop-rest l =
    record {
      some : 1 ≤ l.number;
      few : length l.rest + l.number ≤ 67108865;
      rest : (outcome : Result Reading BlifFault) → Reads l.reader (joined l.number (lines l.rest)) outcome → Reads start (lines_of l.text) outcome;
    }

abbrev pub decreases-loop-rest : goal.decreases-loop-rest
decreases-loop-rest l = length l.rest
