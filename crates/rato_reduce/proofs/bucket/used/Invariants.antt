use Rattle.rato_reduce.proofs.bucket.used.Given as goal

abbrev pub invariant-loop-row : goal.invariant-loop-row
invariant-loop-row l = Unit {0}
