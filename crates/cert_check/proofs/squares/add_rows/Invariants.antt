use Rattle.std.proofs.Common.{◌≡◌, drop}
use Rattle.poly_mixed.specs.Polynomial.{IsReduced}
use Rattle.cert_check.specs.private.Held.{dual_of, with_rows, AreRows}
use Rattle.cert_check.proofs.squares.add_rows.Given as goal

abbrev pub invariant-loop-row : goal.invariant-loop-row
invariant-loop-row g l =
    let degree = g.F.Ring.degree l.field in
    record {
      reduced : IsReduced degree l.poly.terms;
      rows : AreRows l.circuit l.bases degree (drop l.row-index l.rows);
      left : with_rows degree (g.F.Ring.product l.field) (dual_of l.circuit l.bases) (drop l.row-index l.rows) l.poly.terms ≡ with_rows degree (g.F.Ring.product l.field) (dual_of l.circuit l.bases) l.rows l.initial.poly.terms;
    }
