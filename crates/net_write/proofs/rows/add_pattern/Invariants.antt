use Rattle.std.proofs.Common.{◌≡◌, ◌++◌}
use Rattle.net_write.specs.Written.{pattern}
use Rattle.net_write.proofs.rows.add_pattern.Given as goal

abbrev pub invariant-loop-i : goal.invariant-loop-i
invariant-loop-i l = l.out.items ≡ l.initial.out.items ++ pattern l.i l.index
