use Rattle.cert_check.proofs.PlaceLemmas.{AreSums}
use Rattle.cert_check.proofs.squares.add_multiples.Given as goal

abbrev pub invariant-loop-j : goal.invariant-loop-j
invariant-loop-j g l = AreSums (g.F.Ring.product l.field) l.c l.initial.to l.from l.j l.to
