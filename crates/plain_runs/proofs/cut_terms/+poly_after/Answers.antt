use Rattle.std.proofs.Common.{◌∙◌, subst, Bool, List, ℕ}
use Rattle.circuit_model.specs.Flat.{word_of}
use Rattle.stage_model.specs.private.Plain.{IsCutAfter}
use Rattle.stage_model.proofs.CutPolyLemmas.{all_bits, one_more}
use Rattle.plain_runs.proofs.cut_terms.+poly_after.Goals as goal

pub returns-in_ok-poly : goal.returns-in_ok-poly
returns-in_ok-poly g t c =
    all_bits (g.F.Ring.degree c.args.field.now) (g.F.Ring.product c.args.field.now) c.args.net.now c.args.variables.now (word_of c.args.output.now) c.args.cut
    c.args.bits.now c.in_ok-value.value c.in_ok-poly.poly.terms c.requires.each c.if-bits-variables.true c.in_ok-value.ensures.cut c.in_ok-poly.ensures

pub returns-in_ok-poly-2 : goal.returns-in_ok-poly-2
returns-in_ok-poly-2 g t c =
    let k : ℕ = g.F.Ring.degree c.args.field.now in
    let mul : ℕ → ℕ → ℕ = g.F.Ring.product c.args.field.now in
    let Off : List Bool → Type 0 = λ bits. IsCutAfter k mul c.args.net.now c.args.variables.now (word_of c.args.output.now) c.args.cut bits c.in_ok-zero.zero.terms in
    let On : List Bool → Type 0 = λ bits. IsCutAfter k mul c.args.net.now c.args.variables.now (word_of c.args.output.now) c.args.cut bits c.in_ok-one.one.terms in
    one_more k mul c.args.net.now c.args.variables.now (word_of c.args.output.now) c.args.cut c.args.bits.now c.in_ok-zero.zero.terms c.in_ok-one.one.terms c.in_ok-poly-2.poly.terms
    c.in_ok-poly-2.ensures.reduced c.in_ok-poly-2.ensures.choice
    (subst Off (c.deref.ensures.value ∙ c.in_ok-off.ensures) c.in_ok-zero.ensures) (subst On (c.deref-else-bits-variables.ensures.value ∙ c.in_ok-on.ensures) c.in_ok-one.ensures)
