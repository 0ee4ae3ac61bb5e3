use Rattle.std.proofs.Common.{◌≡◌, bit_xor}
use Rattle.std.specs.List.{AllByRecursion}
use Rattle.poly_mixed.specs.Polynomial.{IsTerm, value, point}
use Rattle.poly_mixed.specs.private.Indexed.{terms_in}
use Rattle.poly_mixed.proofs.poly.Poly.value.Given as goal

abbrev pub invariant-loop-mono : goal.invariant-loop-mono
invariant-loop-mono g l =
    let degree = g.F.Ring.degree l.field in
    let mul = g.F.Ring.product l.field in
    record {
      terms : AllByRecursion (IsTerm degree) (terms_in l.mono-iterator);
      sum : bit_xor l.sum (value mul (point l.words l.bits) (terms_in l.mono-iterator)) ≡ value mul (point l.words l.bits) l.self.terms;
    }
