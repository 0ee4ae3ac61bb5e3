use Rattle.std.proofs.Common.{sym, subst, ℕ, List}
use Rattle.gf_basis.specs.BasisParts.{elements_of}
use Rattle.poly_mixed.proofs.FieldLaws.{field_of}
use Rattle.word_subst.specs.Forms.{AreForms}
use Rattle.word_subst.specs.Univariate.{Powers}
use Rattle.word_subst.proofs.GroupLemmas.{some_of_groups}
use Rattle.word_subst.proofs.OneWordLemmas.{none_read, all_read}
use Rattle.word_subst.proofs.word.term_by_term.Goals as goal

pub take_terms-requires-clause-forms : goal.take_terms-requires-clause-forms
take_terms-requires-clause-forms g c =
    let P : List Powers → Type 0 = AreForms (g.F.Ring.degree c.args.field.now) (g.F.Ring.product c.args.field.now) (elements_of c.args.basis.now) in
    subst P (sym c.deref.ensures.value) c.in_ok-forms.ensures

pub take_terms-requires-clause-read : goal.take_terms-requires-clause-read
take_terms-requires-clause-read g c =
    let f = field_of _ _ (g.met.F.Ring.laws c.args.field.now) (g.met.F.Field.no_zero_divisors c.args.field.now) in
    let els : List ℕ = elements_of c.args.basis.now in
    none_read f els c.args.word c.requires.word c.args.terms.now c.args.bound c.in_ok-products.products c.zero-sums.result c.zero-sums.ensures (c.in_ok-products.ensures.products els)

pub to_poly-requires-clause-some : goal.to_poly-requires-clause-some
to_poly-requires-clause-some g c = some_of_groups c.args.word (g.F.Ring.degree c.args.field.now) c.take_terms.new.sums c.in_ok-take_terms.ensures.read.groups

pub returns-clause-read : goal.returns-clause-read
returns-clause-read g c =
    let f = field_of _ _ (g.met.F.Ring.laws c.args.field.now) (g.met.F.Field.no_zero_divisors c.args.field.now) in
    all_read f (elements_of c.args.basis.now) c.args.word c.requires.word c.args.terms.now c.args.bound c.take_terms.new.products c.take_terms.new.sums (g.T.Steps.steps c.args.steps.now) (g.T.Steps.steps c.take_terms.new.steps) c.in_ok-poly.poly.terms
    c.in_ok-take_terms.ensures.read c.in_ok-take_terms.ensures.told c.in_ok-poly.ensures
