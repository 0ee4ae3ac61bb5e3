use Rattle.std.proofs.Common.{◌≡◌, length}
use Rattle.net_blif.specs.Lines.{trim_end}
use Rattle.net_blif.proofs.lines.trim_end.Given as goal

-- what was dropped trails
abbrev pub invariant-loop-line : goal.invariant-loop-line
invariant-loop-line l = trim_end l.line ≡ trim_end l.fn.line

abbrev pub decreases-loop-line : goal.decreases-loop-line
decreases-loop-line l = length l.line
