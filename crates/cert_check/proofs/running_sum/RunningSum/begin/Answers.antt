use Rattle.std.proofs.Common.{◌∙◌, ap, sym, subst, ℕ, List, bit_xor}
use Rattle.std.specs.List.Sorted.{IsStrictlySortedBy}
use Rattle.std.specs.Ordering.{nat_cmp}
use Rattle.cert_check.specs.declared.row.Row.{Row}
use Rattle.cert_check.specs.private.Held.{dual_of, rows_value, AreRows, IsRow}
use Rattle.poly_mixed.proofs.TextLemmas.{all_more}
use Rattle.cert_check.proofs.RowLemmas.{rows_longer}
use Rattle.cert_check.proofs.running_sum.RunningSum.begin.Goals as goal

pub new-requires : goal.new-requires
new-requires g c = let P : List ℕ → Type 0 = IsStrictlySortedBy nat_cmp in subst P (sym c.bits.ensures.value) c.bits.ensures.rising

pub returns-clause-rows : goal.returns-clause-rows
returns-clause-rows g c =
    let k : ℕ = g.F.Ring.degree c.args.field.now in
    let P : Row → Type 0 = IsRow c.args.circuit.now c.args.bases.now k in
    let A : List Row → Type 0 = AreRows c.args.circuit.now c.args.bases.now k in
    subst A (sym c.in_ok-push.ensures.items) (all_more P c.args.self.now.rows.items c.in_ok-row.row c.requires.rows c.in_ok-row.ensures.row)

pub returns-clause-values : goal.returns-clause-values
returns-clause-values g c p at =
    let k : ℕ = g.F.Ring.degree c.args.field.now in
    let mul : ℕ → ℕ → ℕ = g.F.Ring.product c.args.field.now in
    let rows : List Row = c.args.self.now.rows.items in
    let dual : ℕ → ℕ → ℕ = dual_of c.args.circuit.now c.args.bases.now in
    ap (rows_value k mul dual p) c.in_ok-push.ensures.items
    ∙ (rows_longer (g.met.F.Ring.laws c.args.field.now) (g.met.F.Field.no_zero_divisors c.args.field.now) dual p rows c.in_ok-row.row
    ∙ ap (bit_xor (rows_value k mul dual p rows)) (c.in_ok-row.ensures.value p at))
