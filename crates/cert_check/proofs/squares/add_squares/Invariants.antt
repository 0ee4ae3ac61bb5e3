use Rattle.std.proofs.Common.{◌≡◌}
use Rattle.cert_check.specs.private.Held.{dual_of, with_first}
use Rattle.cert_check.proofs.squares.add_squares.Given as goal

abbrev pub invariant-loop-j : goal.invariant-loop-j
invariant-loop-j g l = l.poly.terms ≡ with_first (g.F.Ring.degree l.field) (g.F.Ring.product l.field) (dual_of l.circuit l.bases) l.row l.j l.initial.poly.terms
