use Rattle.std.proofs.Common.{◌≡◌, ◌++◌, drop, map}
use Rattle.net_write.specs.Written.{latch_statement, text_with}
use Rattle.net_write.proofs.write.add_latches.Given as goal

abbrev pub invariant-loop-latch : goal.invariant-loop-latch
invariant-loop-latch l = l.out.items ++ text_with (map (latch_statement l.net) (drop l.latch-index l.latch-items)) ≡ l.initial.out.items ++ text_with (map (latch_statement l.net) l.latch-items)
