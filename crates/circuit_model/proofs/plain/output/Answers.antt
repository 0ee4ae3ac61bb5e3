use Rattle.std.proofs.Common.{subst, sym, ◌∙◌, List, Bool, ℕ}
use Rattle.std.proofs.lemmas.Bool.{false≢true}
use Rattle.lists.specs.laws.OptionLaws.{if_some}
use Rattle.net_core.specs.Value.{HasValues}
use Rattle.circuit_model.specs.Word.{HasElement}
use Rattle.circuit_model.specs.Out.{IsOut}
use Rattle.circuit_model.specs.Flat.{circuit_of_parts, word_of}
use Rattle.circuit_model.specs.private.Found.{HaveAll}
use Rattle.circuit_model.proofs.PlainLemmas.{plain_all, plain_out}
use Rattle.circuit_model.proofs.plain.output.Goals as goal

pub returns-then-have_elements-clause-output : goal.returns-then-have_elements-clause-output
returns-then-have_elements-clause-output g c =
    let P : List Bool → Type 0 = λ vs. HasValues c.args.net.now vs c.in_ok-bits.bits.items in
    let H : List Bool → Type 0 = λ bs. HaveAll c.args.words.now c.args.xs.now bs in
    let E : ℕ → List Bool → Type 0 = λ e bs. HasElement bs (word_of c.args.output.now) e in
    if_some c.element.result (λ e. HasElement c.deref-then-have_elements.result.now (word_of c.args.output.now) e) (λ e. IsOut (circuit_of_parts (g.F.Ring.degree c.args.field.now) (g.F.Ring.product c.args.field.now) c.args.net.now c.args.words.now c.args.output.now) c.args.xs.now e)
    (λ e ends. plain_out (g.F.Ring.degree c.args.field.now) (g.F.Ring.product c.args.field.now) c.args.net.now c.args.words.now c.args.output.now c.args.xs.now c.in_ok-bits.bits.items c.in_ok-values.values.items c.requires.flat c.requires.long c.requires.elements c.in_ok-values.ensures.long c.in_ok-bits.ensures.consistent (subst P c.deref.ensures.value c.in_ok-bits.ensures.values) c.in_ok-values.ensures.zeros (subst H c.deref-2.ensures.value (c.have_elements.ensures.0 c.if-have_elements.true)) e (subst (E e) c.deref-then-have_elements.ensures.value ends))
    c.element.ensures.element

pub returns-then-have_elements-clause-complete : goal.returns-then-have_elements-clause-complete
returns-then-have_elements-clause-complete g c = λ well. c.element.ensures.some well.output.nets

pub returns-clause-complete : goal.returns-clause-complete
returns-clause-complete g c = λ well.
    let P : List Bool → Type 0 = λ vs. HasValues c.args.net.now vs c.in_ok-bits.bits.items in
    let H : List Bool → Type 0 = λ bs. HaveAll c.args.words.now c.args.xs.now bs in
    let have = plain_all (g.F.Ring.degree c.args.field.now) (g.F.Ring.product c.args.field.now) c.args.net.now c.args.words.now c.args.output.now c.args.xs.now c.in_ok-bits.bits.items c.in_ok-values.values.items c.requires.flat well c.requires.elements c.in_ok-values.ensures.long (subst P c.deref.ensures.value c.in_ok-bits.ensures.values) c.in_ok-values.ensures.bits in
    absurd (false≢true (sym c.if-have_elements.false ∙ c.have_elements.ensures.1 (subst H (sym c.deref-2.ensures.value) have)))
