use Rattle.net_simplify.proofs.halves.+with_bit.Given as goal

abbrev pub decreases-with_bit : goal.decreases-with_bit
decreases-with_bit l = l.place
