use Rattle.std.proofs.Common.{◌≡◌, ◌≢◌, bit_xor}
use Rattle.std.specs.List.{AllByRecursion}
use Rattle.poly_mixed.specs.Polynomial.{Point, IsPoint, IsTerm, IsReduced, value, term_value}
use Rattle.poly_mixed.specs.private.Indexed.{terms_in}
use Rattle.poly_mixed.proofs.poly.Poly.add_product.Given as goal

abbrev pub invariant-loop-n : goal.invariant-loop-n
invariant-loop-n g l =
    let degree = g.F.Ring.degree l.field in
    let mul = g.F.Ring.product l.field in
    record {
      reduced : IsReduced degree l.self.terms;
      terms : AllByRecursion (IsTerm degree) (terms_in l.n-iterator);
      nonzero : AllByRecursion (λ t. t.1 ≢ 0) (terms_in l.n-iterator);
      values : (p : Point) → IsPoint degree p → bit_xor (value mul p l.self.terms) (mul (term_value mul p (l.mono, l.c)) (value mul p (terms_in l.n-iterator))) ≡ bit_xor (value mul p l.initial.self.terms) (mul (term_value mul p (l.mono, l.c)) (value mul p l.other.terms));
    }
