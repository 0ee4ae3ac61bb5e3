use Rattle.std.proofs.Common.{◌≡◌, ◌≢◌, bit_xor, drop}
use Rattle.std.specs.List.{AllByRecursion}
use Rattle.poly_mixed.specs.Polynomial.{Point, IsPoint, IsTerm, IsReduced, value}
use Rattle.cert_check.specs.private.Units.{units}
use Rattle.cert_check.proofs.multiple.add_products.Given as goal

abbrev pub invariant-loop-term : goal.invariant-loop-term
invariant-loop-term g l =
    let degree = g.F.Ring.degree l.field in
    let mul = g.F.Ring.product l.field in
    record {
      reduced : IsReduced degree l.sum.terms;
      terms : AllByRecursion (IsTerm degree) (drop l.term-index l.left);
      nonzero : AllByRecursion (λ t. t.1 ≢ 0) (drop l.term-index l.left);
      values : (p : Point) → IsPoint degree p → bit_xor (value mul p l.sum.terms) (mul (value mul p (drop l.term-index l.left)) (value mul p (units l.right))) ≡ bit_xor (value mul p l.initial.sum.terms) (mul (value mul p l.left) (value mul p (units l.right)));
    }
