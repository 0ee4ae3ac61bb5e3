use Rattle.std.proofs.Common.{◌∙◌, ap, subst, ℕ, ◌+◌, List, ◌++◌, codes, length}
use Rattle.poly_mixed.specs.Labels.{Labelling, bit_count}
use Rattle.poly_mixed.specs.Text.{text}
use Rattle.lift_table.specs.TablePolynomial.{IsPolynomialOfTable}
use Rattle.stage_model.proofs.SharedLemmas.{no_names}
use Rattle.answer_tables.proofs.lift.reply.Goals as goal

pub polynomial_line-requires-clause-named : goal.polynomial_line-requires-clause-named
polynomial_line-requires-clause-named g c =
    let labels = c.args.labels.now in
    no_names (bit_count labels.words + length labels.nets) c.in_ok-poly.poly.terms (rw c.words.ensures.value at c.in_ok-poly.ensures).no_bits

pub polynomial_line-requires-clause-words_named : goal.polynomial_line-requires-clause-words_named
polynomial_line-requires-clause-words_named g c = (rw c.words.ensures.value at c.in_ok-poly.ensures).words_alone

pub returns : goal.returns
returns g c =
    let degree = g.F.Ring.degree c.args.field.now in
    let mul = g.F.Ring.product c.args.field.now in
    let ts = c.in_ok-poly.poly.terms in
    let P : Labelling → Type 0 = λ l. IsPolynomialOfTable degree mul (length l.words) c.args.table.now ts in
    (ts, subst P c.requires.labels (rw c.words.ensures.value at c.in_ok-poly.ensures), ap (λ (t : List ℕ). record { status = 0; text = t }) (c.in_ok-text.ensures ∙ ap (λ (l : Labelling). l.output ++ (codes " = " ++ (text l ts ++ codes "\n"))) c.requires.labels))
