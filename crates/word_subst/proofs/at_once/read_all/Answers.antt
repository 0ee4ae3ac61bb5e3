use Rattle.std.proofs.Common.{◌≢◌, ℕ, List}
use Rattle.gf_basis.specs.BasisParts.{elements_of}
use Rattle.std.proofs.lemmas.Result.{IfOk-weaker}
use Rattle.poly_mixed.specs.Polynomial.{IsTerm}
use Rattle.poly_mixed.proofs.FieldLaws.{field_of}
use Rattle.word_subst.proofs.GroupLemmas.{some_powers}
use Rattle.word_subst.proofs.ReadFromLemmas.{mapped_items, read_items}
use Rattle.word_subst.proofs.ReadAtOnceLemmas.{whole_read}
use Rattle.word_subst.proofs.at_once.read_all.Goals as goal

pub read_from-requires-clause-terms : goal.read_from-requires-clause-terms
read_from-requires-clause-terms g c = mapped_items c.deref-2.result.now c.in_ok-list.list.items c.args.terms.now (λ t. t.now) (IsTerm (g.F.Ring.degree c.args.field.now)) c.deref-2.ensures.value c.in_ok-list.ensures c.requires.terms.terms

pub read_from-requires-clause-some : goal.read_from-requires-clause-some
read_from-requires-clause-some g c = mapped_items c.deref-2.result.now c.in_ok-list.list.items c.args.terms.now (λ t. t.now) (λ t. t.1 ≢ 0) c.deref-2.ensures.value c.in_ok-list.ensures c.requires.terms.is_map.nonzero

pub spread_poly-requires-clause-some : goal.spread_poly-requires-clause-some
spread_poly-requires-clause-some g c = some_powers (g.F.Ring.degree c.args.field.now) c.in_ok-powers.powers c.in_ok-powers.ensures.univariate

pub returns : goal.returns
returns g c =
    let k : ℕ = g.F.Ring.degree c.args.field.now in
    let els : List ℕ = elements_of c.args.basis.now in
    let f = field_of k (g.F.Ring.product c.args.field.now) (g.met.F.Ring.laws c.args.field.now) (g.met.F.Field.no_zero_divisors c.args.field.now) in
    let is = read_items f els c.args.word c.deref-2.result.now c.in_ok-list.list.items c.args.terms.now (λ t. t.now) c.in_ok-powers.powers c.deref-2.ensures.value c.in_ok-list.ensures c.in_ok-powers.ensures in
    IfOk-weaker c.spread_poly.result _ _ (λ q e. whole_read f els c.args.word c.in_ok-forms.forms.items c.in_ok-forms.ensures c.args._bound c.requires.wide c.requires.word c.args.rest.now c.args.terms.now c.in_ok-powers.powers q.terms c.requires.terms c.requires.rest c.requires.some is e) c.spread_poly.ensures
