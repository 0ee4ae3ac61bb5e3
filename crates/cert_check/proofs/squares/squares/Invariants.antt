use Rattle.gf_basis.specs.BasisParts.{duals_of}
use Rattle.cert_check.specs.private.Squares.{AreSquares}
use Rattle.cert_check.proofs.squares.squares.Given as goal

abbrev pub invariant-loop-place : goal.invariant-loop-place
invariant-loop-place g l = AreSquares (g.F.Ring.degree l.field) (g.F.Ring.product l.field) (duals_of l.basis) l.coefficients l.place l.list.items
