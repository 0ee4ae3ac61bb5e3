use Rattle.rato_reduce.proofs.merge.find_or_note.Given as goal

abbrev pub invariant-loop : goal.invariant-loop
invariant-loop l = Unit {0}
