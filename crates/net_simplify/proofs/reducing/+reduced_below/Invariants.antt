use Rattle.net_simplify.proofs.reducing.+reduced_below.Given as goal

abbrev pub decreases-reduced_below : goal.decreases-reduced_below
decreases-reduced_below l = l.place
