use Rattle.std.proofs.Common.{get_or, refl, sym, subst, ℕ}
use Rattle.std.proofs.lemmas.Option.{slice_get_within}
use Rattle.poly_mixed.specs.Polynomial.{IsElement}
use Rattle.cert_check.specs.declared.row.Row.{Row}
use Rattle.cert_check.specs.private.Held.{dual_of, IsRow}
use Rattle.cert_check.proofs.PartLemmas.{all_at, all_put}
use Rattle.cert_check.proofs.RowLemmas.{row_at_changed}
use Rattle.cert_check.proofs.running_sum.add_at.Goals as goal

pub bounds-rows-i : goal.bounds-rows-i
bounds-rows-i g c = slice_get_within c.args.rows.now c.args.i c.requires.place.0 c.requires.place.1

pub add-requires-clause-row : goal.add-requires-clause-row
add-requires-clause-row g c = let P : Row → Type 0 = IsRow c.args.circuit.now c.args.bases.now (g.F.Ring.degree c.args.field.now) in all_at P c.args.rows.now c.args.i c.requires.place.0 c.index-rows-i.result c.requires.rows c.requires.place.1

pub add-requires-clause-element : goal.add-requires-clause-element
add-requires-clause-element g c = let P : ℕ → Type 0 = IsElement (g.F.Ring.degree c.args.field.now) in subst P (sym c.coefficient.ensures) c.requires.term.element

pub returns-clause-rows : goal.returns-clause-rows
returns-clause-rows g c = let P : Row → Type 0 = IsRow c.args.circuit.now c.args.bases.now (g.F.Ring.degree c.args.field.now) in all_put P c.args.rows.now c.args.i c.add.new.self c.requires.rows c.add.ensures.row

pub returns-clause-values : goal.returns-clause-values
returns-clause-values g c p at =
    row_at_changed (g.met.F.Ring.laws c.args.field.now) (g.met.F.Field.no_zero_divisors c.args.field.now) (dual_of c.args.circuit.now c.args.bases.now) p c.args.rows.now c.args.i (get_or c.args.rows.now c.args.i c.index-rows-i.result) c.index-rows-i.result c.add.new.self c.args.term.now c.args.form.now c.coefficient.result c.requires.place refl c.coefficient.ensures (c.add.ensures.value (dual_of c.args.circuit.now c.args.bases.now) p at)
