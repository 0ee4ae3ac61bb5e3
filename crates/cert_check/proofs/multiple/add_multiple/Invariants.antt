use Rattle.std.proofs.Common.{◌≡◌, bit_xor, drop}
use Rattle.poly_mixed.specs.Polynomial.{Point, IsPoint, IsReduced, value, term_value}
use Rattle.cert_check.specs.private.Units.{units, AreTerms}
use Rattle.cert_check.proofs.multiple.add_multiple.Given as goal

abbrev pub invariant-loop-other : goal.invariant-loop-other
invariant-loop-other g l =
    let degree = g.F.Ring.degree l.field in
    let mul = g.F.Ring.product l.field in
    record {
      reduced : IsReduced degree l.sum.terms;
      terms : AreTerms degree (units (drop l.other-index l.monos));
      values : (p : Point) → IsPoint degree p → bit_xor (value mul p l.sum.terms) (mul (term_value mul p l.by) (value mul p (units (drop l.other-index l.monos)))) ≡ bit_xor (value mul p l.initial.sum.terms) (mul (term_value mul p l.by) (value mul p (units l.monos)));
    }
