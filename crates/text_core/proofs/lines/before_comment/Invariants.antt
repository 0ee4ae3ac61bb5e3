use Rattle.std.proofs.Common.{◌≡◌, ◌++◌, take, drop}
use Rattle.text_core.specs.Lines.{before_comment}
use Rattle.text_core.proofs.lines.before_comment.Given as goal

abbrev pub invariant-loop-i : goal.invariant-loop-i
invariant-loop-i l = take l.i l.line ++ before_comment (drop l.i l.line) ≡ before_comment l.line
