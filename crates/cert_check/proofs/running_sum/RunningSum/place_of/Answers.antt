use Rattle.std.proofs.Common.{◌≡◌, ◌∙◌, ap, sym, ℕ, List, Some}
use Rattle.std.specs.Prelude.{slice_get}
use Rattle.lists.specs.laws.ReadLaws.{got_read}
use Rattle.cert_check.specs.declared.row.Row.{Row}
use Rattle.poly_mixed.proofs.SharedLemmas.{same_monomial}
use Rattle.cert_check.proofs.running_sum.RunningSum.place_of.Goals as goal

pub returns-then-eq : goal.returns-then-eq
returns-then-eq c =
    let row : Row = c.in_ok-row.row.now in
    let i : ℕ = c.in_ok-i.field-0.now in
    let rows : List Row = c.as_slice.result.now in
    let at = c.in_ok-row.ensures.lookup in
    let found : slice_get c.args.self.now.rows.items i ≡ Some row = ap (λ (xs : List Row). slice_get xs i) (sym c.as_slice.ensures.value) ∙ got_read rows i row at.3.0 at.1 in
    (row, found, same_monomial row.mono c.args.mono.now (sym c.eq.ensures ∙ c.if-eq.true), c.if-row-word.true)
