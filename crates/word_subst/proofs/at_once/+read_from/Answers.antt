use Rattle.std.proofs.Common.{rules, ◌≡◌, ◌∙◌, ◌≢◌, ◌<◌, ◌+◌, ◌-◌, ◌*◌, ap, sym, subst, not, ℕ, List, arith}
use Rattle.gf_basis.specs.BasisParts.{elements_of}
use Rattle.std.proofs.lemmas.Result.{IfOk-weaker}
use Rattle.poly_mixed.specs.Monomial.{has_bit}
use Rattle.poly_mixed.specs.Polynomial.{IsTerm}
use Rattle.poly_mixed.proofs.FieldLaws.{field_of}
use Rattle.word_subst.proofs.OneTermLemmas.{rank_low}
use Rattle.word_subst.proofs.PrefixLemmas.{next_inside}
use Rattle.word_subst.proofs.ReadFromLemmas.{last_read, next_items, form_read, filtered_items, below_last, next_closer}
use Rattle.word_subst.proofs.at_once.+read_from.Goals as goal

pub returns-then-place-k : goal.returns-then-place-k
returns-then-place-k g t c =
    let f = field_of _ _ (g.met.F.Ring.laws c.args.field.now) (g.met.F.Field.no_zero_divisors c.args.field.now) in
    let at : c.args.place ≡ g.F.Ring.degree c.args.field.now = c.if-place-k.true ∙ c.k.ensures in
    IfOk-weaker c.powers.result _ _ (λ last e. last_read f (elements_of c.args.basis.now) c.args.word c.args.place _ last at e) c.powers.ensures

pub read_from-requires : goal.read_from-requires
read_from-requires g t c κs within =
    let k : ℕ = g.F.Ring.degree c.args.field.now in
    let rank : ℕ = c.k-2.result * c.args.word + c.args.place in
    let less : c.args.place < k = below_last k c.k.result c.args.place c.k.ensures c.requires.place c.if-place-k.false in
    let smaller : k - (c.args.place + 1) < k - c.args.place = next_closer k c.args.place less in
    let terms = filtered_items c.args.terms.now c.deref.result.now c.in_ok-lack.lack.items (λ x. not (has_bit rank x.now.0)) (λ x. IsTerm k x.now) c.deref.ensures.value c.in_ok-lack.ensures c.requires.terms in
    let some = filtered_items c.args.terms.now c.deref.result.now c.in_ok-lack.lack.items (λ x. not (has_bit rank x.now.0)) (λ x. x.now.1 ≢ 0) c.deref.ensures.value c.in_ok-lack.ensures c.requires.some in
    (search rules, (search rules, (search rules, (c.requires.word, (next_inside c.args.place k less, (c.requires.forms, (terms, some)))))))

pub read_from-requires-2 : goal.read_from-requires-2
read_from-requires-2 g t c κs within =
    let k : ℕ = g.F.Ring.degree c.args.field.now in
    let rank : ℕ = c.k-2.result * c.args.word + c.args.place in
    let less : c.args.place < k = below_last k c.k.result c.args.place c.k.ensures c.requires.place c.if-place-k.false in
    let smaller : k - (c.args.place + 1) < k - c.args.place = next_closer k c.args.place less in
    let terms = filtered_items c.args.terms.now c.deref-2.result.now c.in_ok-have.have.items (λ x. has_bit rank x.now.0) (λ x. IsTerm k x.now) c.deref-2.ensures.value c.in_ok-have.ensures c.requires.terms in
    let some = filtered_items c.args.terms.now c.deref-2.result.now c.in_ok-have.have.items (λ x. has_bit rank x.now.0) (λ x. x.now.1 ≢ 0) c.deref-2.ensures.value c.in_ok-have.ensures c.requires.some in
    (search rules, (search rules, (search rules, (c.requires.word, (next_inside c.args.place k less, (c.requires.forms, (terms, some)))))))

pub plus_product-requires-clause-form : goal.plus_product-requires-clause-form
plus_product-requires-clause-form g t c =
    let k : ℕ = g.F.Ring.degree c.args.field.now in
    let less : c.args.place < k = below_last k c.k.result c.args.place c.k.ensures c.requires.place c.if-place-k.false in
    (form_read k (g.F.Ring.product c.args.field.now) (elements_of c.args.basis.now) c.args.place c.args.forms.now c.index-forms-place.result c.requires.forms less c.index-forms-place.is).univariate

pub returns : goal.returns
returns g t c =
    let k : ℕ = g.F.Ring.degree c.args.field.now in
    let els : List ℕ = elements_of c.args.basis.now in
    let f = field_of k (g.F.Ring.product c.args.field.now) (g.met.F.Ring.laws c.args.field.now) (g.met.F.Field.no_zero_divisors c.args.field.now) in
    let rank : ℕ = c.k-2.result * c.args.word + c.args.place in
    let less : c.args.place < k = below_last k c.k.result c.args.place c.k.ensures c.requires.place c.if-place-k.false in
    let form = form_read k (g.F.Ring.product c.args.field.now) els c.args.place c.args.forms.now c.index-forms-place.result c.requires.forms less c.index-forms-place.is in
    IfOk-weaker c.plus_product.result _ _ (λ sum e. next_items f els c.args.word c.args.terms.now c.deref.result.now c.deref-2.result.now (λ x. x.now) c.args.place rank c.in_ok-low.low c.in_ok-high.high c.index-forms-place.result sum less (ap (λ x. x * c.args.word + c.args.place) c.k-2.ensures)
    (c.deref.ensures.value ∙ c.in_ok-lack.ensures) (c.deref-2.ensures.value ∙ c.in_ok-have.ensures) c.in_ok-low.ensures c.in_ok-high.ensures form e) c.plus_product.ensures

pub plus_product-requires-clause-low : goal.plus_product-requires-clause-low
plus_product-requires-clause-low g t c = c.in_ok-low.ensures.univariate

pub plus_product-requires-clause-high : goal.plus_product-requires-clause-high
plus_product-requires-clause-high g t c = c.in_ok-high.ensures.univariate

pub bounds-forms-place : goal.bounds-forms-place
bounds-forms-place g t c =
    let P : ℕ → Type 0 = λ n. c.args.place < n in
    subst P (sym c.requires.forms.long) (below_last (g.F.Ring.degree c.args.field.now) c.k.result c.args.place c.k.ensures c.requires.place c.if-place-k.false)

pub overflow_mul-rank : goal.overflow_mul-rank
overflow_mul-rank g t c = omega (arith, rank_low (g.F.Ring.degree c.args.field.now) c.k-2.result c.args.word c.k-2.ensures (g.met.F.Ring.laws c.args.field.now).small c.requires.word)
