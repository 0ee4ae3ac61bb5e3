use Rattle.std.proofs.Common.{◌≡◌, ◌≢◌, bit_xor}
use Rattle.std.specs.List.{AllByRecursion}
use Rattle.poly_mixed.specs.Polynomial.{Point, IsPoint, IsTerm, IsReduced, value}
use Rattle.poly_mixed.specs.private.Indexed.{terms_in}
use Rattle.poly_mixed.proofs.poly.Poly.mul.Given as goal

abbrev pub invariant-loop-mono : goal.invariant-loop-mono
invariant-loop-mono g l =
    let degree = g.F.Ring.degree l.field in
    let mul = g.F.Ring.product l.field in
    record {
      reduced : IsReduced degree l.out.terms;
      terms : AllByRecursion (IsTerm degree) (terms_in l.mono-iterator);
      nonzero : AllByRecursion (λ t. t.1 ≢ 0) (terms_in l.mono-iterator);
      values : (p : Point) → IsPoint degree p → bit_xor (value mul p l.out.terms) (mul (value mul p (terms_in l.mono-iterator)) (value mul p l.other.terms)) ≡ mul (value mul p l.self.terms) (value mul p l.other.terms);
    }
