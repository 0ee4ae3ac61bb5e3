use Rattle.std.proofs.Common.{◌≡◌, ◌≤◌, drop}
use Rattle.poly_mixed.specs.Polynomial.{IsElement}
use Rattle.poly_mixed.specs.Polynomial.{powers}
use Rattle.poly_mixed.proofs.evaluate.powers.Given as goal

abbrev pub invariant-loop-i : goal.invariant-loop-i
invariant-loop-i g l =
    let degree = g.F.Ring.degree l.field in
    let mul = g.F.Ring.product l.field in
    record { within : l.i ≤ 8; value : l.out ≡ powers mul (drop l.i l.exponents) (drop l.i l.words); element : IsElement degree l.out }

abbrev pub decreases-loop-i : goal.decreases-loop-i
decreases-loop-i g l = l.i
