use Rattle.rato_reduce.proofs.first_cut.places.Given as goal

abbrev pub invariant-loop-t : goal.invariant-loop-t
invariant-loop-t l = Unit {0}
