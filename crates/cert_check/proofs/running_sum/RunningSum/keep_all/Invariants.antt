use Rattle.std.proofs.Common.{◌≡◌, bit_xor, drop, Some}
use Rattle.std.specs.List.{AllByRecursion}
use Rattle.poly_mixed.specs.Polynomial.{Point, IsPoint, IsTerm, value}
use Rattle.cert_check.specs.private.Held.{dual_of, form_value, rows_value, AreRows}
use Rattle.cert_check.proofs.running_sum.RunningSum.keep_all.Given as goal

abbrev pub invariant-loop-term : goal.invariant-loop-term
invariant-loop-term g l =
    let degree = g.F.Ring.degree l.field in
    let mul = g.F.Ring.product l.field in
    let dual = dual_of l.circuit l.bases in
    record {
      poly : l.self.poly.terms ≡ l.initial.self.poly.terms;
      rows : AreRows l.circuit l.bases degree l.self.rows.items;
      terms : AllByRecursion (IsTerm degree) (drop l.term-index l.terms);
      values : (p : Point) → IsPoint degree p → bit_xor (rows_value degree mul dual p l.self.rows.items) (mul (value mul p (drop l.term-index l.terms)) (form_value degree mul dual p (Some l.form))) ≡ bit_xor (rows_value degree mul dual p l.initial.self.rows.items) (mul (value mul p l.terms) (form_value degree mul dual p (Some l.form)));
    }
