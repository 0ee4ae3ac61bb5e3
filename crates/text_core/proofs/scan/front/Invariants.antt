use Rattle.std.proofs.Common.{◌≡◌, ◌++◌, take, drop}
use Rattle.text_core.specs.Scan.{run, is_in}
use Rattle.text_core.proofs.scan.front.Given as goal

abbrev pub invariant-loop-i : goal.invariant-loop-i
invariant-loop-i l = take l.i l.bytes ++ run (is_in l.class) (drop l.i l.bytes) ≡ run (is_in l.class) l.bytes
