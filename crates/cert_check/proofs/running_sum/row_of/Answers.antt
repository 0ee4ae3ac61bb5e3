use Rattle.std.proofs.Common.{◌∙◌, sym, subst, ℕ}
use Rattle.poly_mixed.specs.Polynomial.{IsElement}
use Rattle.cert_check.specs.private.Held.{dual_of}
use Rattle.cert_check.proofs.PartLemmas.{row_begins}
use Rattle.cert_check.proofs.RowLemmas.{row_made}
use Rattle.cert_check.proofs.running_sum.row_of.Goals as goal

pub add-requires-clause-row : goal.add-requires-clause-row
add-requires-clause-row g c = row_begins c.args.circuit.now c.args.bases.now (g.F.Ring.degree c.args.field.now) c.k.result c.in_ok-row.row c.args.term.now c.args.form.now c.k.ensures (c.in_ok-row.ensures.mono ∙ c.mono.ensures) c.in_ok-row.ensures.word c.in_ok-row.ensures.none c.requires.term c.requires.form

pub add-requires-clause-element : goal.add-requires-clause-element
add-requires-clause-element g c = let P : ℕ → Type 0 = IsElement (g.F.Ring.degree c.args.field.now) in subst P (sym c.coefficient.ensures) c.requires.term.element

pub returns-clause-value : goal.returns-clause-value
returns-clause-value g c p at =
    row_made (g.met.F.Ring.laws c.args.field.now) (g.met.F.Field.no_zero_divisors c.args.field.now) (dual_of c.args.circuit.now c.args.bases.now) p c.in_ok-row.row c.add.new.self c.args.term.now c.args.form.now c.coefficient.result c.k.result c.k.ensures (c.in_ok-row.ensures.mono ∙ c.mono.ensures) c.in_ok-row.ensures.word c.in_ok-row.ensures.none c.coefficient.ensures (c.add.ensures.value (dual_of c.args.circuit.now c.args.bases.now) p at)
