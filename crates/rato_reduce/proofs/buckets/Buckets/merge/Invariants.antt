use Rattle.std.proofs.Common.{◌≡◌}
use Rattle.rato_reduce.proofs.buckets.Buckets.merge.Given as goal

abbrev pub invariant-loop-i : goal.invariant-loop-i
invariant-loop-i l = l.self.terms ≡ l.initial.self.terms
