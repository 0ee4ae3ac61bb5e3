use Rattle.std.proofs.Common.{◌≡◌, ◌∙◌, ◌∷◌, ◌+◌, ap, sym, subst, ℕ, List, drop}
use Rattle.std.proofs.lemmas.List.{drop_more}
use Rattle.poly_mixed.specs.Polynomial.{Terms, IsReduced}
use Rattle.cert_check.specs.declared.row.Row.{Row}
use Rattle.cert_check.specs.private.Held.{dual_of, with_rows, AreRows}
use Rattle.cert_check.proofs.HeldLemmas.{with_row_is}
use Rattle.cert_check.proofs.squares.add_rows.Goals as goal

pub add_row-requires-clause-row : goal.add_row-requires-clause-row
add_row-requires-clause-row g c =
    let n : ℕ = c.loop-row.row-index in
    let rows : List Row = c.args.rows.now in
    let next : drop n rows ≡ c.row-item.result ∷ drop (n + 1) rows = drop_more rows n c.row-item.result c.loop-row-test.true ∙ ap (λ (r : Row). r ∷ drop (n + 1) rows) (sym c.row-item.is) in
    let R : List Row → Type 0 = AreRows c.args.circuit.now c.args.bases.now (g.F.Ring.degree c.args.field.now) in
    (subst R next c.loop-row.invariant.rows).0

pub loop-row-preserved : goal.loop-row-preserved
loop-row-preserved g c =
    let k : ℕ = g.F.Ring.degree c.args.field.now in
    let mul : ℕ → ℕ → ℕ = g.F.Ring.product c.args.field.now in
    let dual : ℕ → ℕ → ℕ = dual_of c.args.circuit.now c.args.bases.now in
    let i = c.loop-row.invariant in
    let n : ℕ = c.loop-row.row-index in
    let rows : List Row = c.args.rows.now in
    let row : Row = c.row-item.result in
    let old : Terms = c.loop-row.poly.terms in
    let next : drop n rows ≡ row ∷ drop (n + 1) rows = drop_more rows n row c.loop-row-test.true ∙ ap (λ (r : Row). r ∷ drop (n + 1) rows) (sym c.row-item.is) in
    let R : List Row → Type 0 = AreRows c.args.circuit.now c.args.bases.now k in
    let are : AreRows c.args.circuit.now c.args.bases.now k (row ∷ drop (n + 1) rows) = subst R next i.rows in
    let P : Terms → Type 0 = IsReduced k in
    record {
      reduced = subst P (sym c.in_ok-add_row.ensures.poly) (with_row_is (g.met.F.Ring.laws c.args.field.now) (g.met.F.Field.no_zero_divisors c.args.field.now) c.args.circuit.now c.args.bases.now dual row are.0 old i.reduced).0;
      rows = are.1;
      left = ap (λ (ts : Terms). with_rows k mul dual (drop (n + 1) rows) ts) c.in_ok-add_row.ensures.poly ∙ (sym (ap (λ (rs : List Row). with_rows k mul dual rs old) next) ∙ i.left);
    }
