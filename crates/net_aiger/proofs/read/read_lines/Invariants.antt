use Rattle.std.proofs.Common.{◌≡◌, ◌≤◌, ◌+◌, length}
use Rattle.std.specs.Str.Lines.{lines}
use Rattle.net_aiger.specs.private.Run.{lines_read}
use Rattle.net_aiger.proofs.read.read_lines.Given as goal

-- what the rest says after what was read, the whole says
abbrev pub invariant-loop-rest : goal.invariant-loop-rest
invariant-loop-rest l =
    record {
      few : length l.rest + l.number ≤ 67108866;
      same : lines_read 2 (lines l.text) l.initial.reader ≡ lines_read l.number (lines l.rest) l.reader;
    }

abbrev pub decreases-loop-rest : goal.decreases-loop-rest
decreases-loop-rest l = length l.rest
