use Rattle.std.proofs.Common.{rules, refl, ap, sym, subst, ◌∙◌, ℕ, List, [], ◌∷◌, ◌++◌, length, get_or, arith}
use Rattle.std.proofs.lemmas.List.{take_all, take_more}
use Rattle.gf_basis.specs.BasisParts.{elements_of}
use Rattle.poly_mixed.proofs.FieldLaws.{field_of}
use Rattle.word_subst.specs.Prefix.{IsProductRefusal}
use Rattle.word_subst.proofs.OneTermLemmas.{rank_low}
use Rattle.word_subst.proofs.PrefixLemmas.{first_over, form_at, place_at, next_inside}
use Rattle.word_subst.proofs.products.BitProducts.follow.Goals as goal

pub loop-j-init : goal.loop-j-init
loop-j-init g c = record { inside = c.keep-n.ensures.within; ranks = c.keep-n.ensures.ranks; start = refl; products = c.keep-n.ensures.products (g.F.Ring.degree c.args.field.now) (g.F.Ring.product c.args.field.now) (elements_of c.args.basis.now) c.args.word c.args.bound c.requires.products }

pub extend-requires-clause-form : goal.extend-requires-clause-form
extend-requires-clause-form g c =
    form_at (g.F.Ring.degree c.args.field.now) (g.F.Ring.product c.args.field.now) (elements_of c.args.basis.now) c.args.word c.k-k.result c.loop-j.j c.args.own.now c.args.forms.now c.index-forms-place.result c.requires.own c.loop-j-test.true c.k-k.ensures c.requires.forms c.index-forms-place.is

pub returns-in_err-extend-clause-fault : goal.returns-in_err-extend-clause-fault
returns-in_err-extend-clause-fault g c =
    let k : ℕ = g.F.Ring.degree c.args.field.now in
    let mul : ℕ → ℕ → ℕ = g.F.Ring.product c.args.field.now in
    let els : List ℕ = elements_of c.args.basis.now in
    let P : ℕ → Type 0 = λ start. IsProductRefusal k mul els c.args.word start c.args.own.now c.args.number c.args.bound c.in_err-extend.field-0.0 in
    let here = first_over (field_of k mul (g.met.F.Ring.laws c.args.field.now) (g.met.F.Field.no_zero_divisors c.args.field.now)) els c.args.word c.args.bound c.loop-j.self c.args.own.now c.loop-j.j _ c.args.number c.in_err-extend.field-0.0
    c.loop-j.invariant.products c.loop-j.invariant.ranks c.loop-j-test.true refl c.in_err-extend.ensures.fault in
    let fault : IsProductRefusal k mul els c.args.word c.args.self.now.start c.args.own.now c.args.number c.args.bound c.in_err-extend.field-0.0 = subst P (c.loop-j.invariant.start ∙ c.keep-n.ensures.start) here in
    search rules

pub bounds-forms-place : goal.bounds-forms-place
bounds-forms-place g c = (place_at (g.F.Ring.degree c.args.field.now) (g.F.Ring.product c.args.field.now) (elements_of c.args.basis.now) c.args.word c.k-k.result c.loop-j.j c.args.own.now c.args.forms.now c.requires.own c.loop-j-test.true c.k-k.ensures c.requires.forms).1

pub overflow_sub-place : goal.overflow_sub-place
overflow_sub-place g c = (place_at (g.F.Ring.degree c.args.field.now) (g.F.Ring.product c.args.field.now) (elements_of c.args.basis.now) c.args.word c.k-k.result c.loop-j.j c.args.own.now c.args.forms.now c.requires.own c.loop-j-test.true c.k-k.ensures c.requires.forms).0

pub extend-requires-clause-products : goal.extend-requires-clause-products
extend-requires-clause-products g c = c.loop-j.invariant.products

pub loop-j-preserved : goal.loop-j-preserved
loop-j-preserved g c =
    let own : List ℕ = c.args.own.now in
    let j : ℕ = c.loop-j.j in
    record {
      inside = next_inside j (length own) c.loop-j-test.true;
      ranks = c.in_ok-extend.ensures.ranks ∙ (ap (λ (rs : List ℕ). rs ++ get_or own j 0 ∷ []) c.loop-j.invariant.ranks ∙ sym (take_more own j 0 c.loop-j-test.true));
      start = c.in_ok-extend.ensures.start ∙ c.loop-j.invariant.start;
      products = c.in_ok-extend.ensures.products;
    }

pub returns-clause-products : goal.returns-clause-products
returns-clause-products g c = c.loop-j.invariant.products

pub returns-clause-ranks : goal.returns-clause-ranks
returns-clause-ranks g c = c.loop-j.invariant.ranks ∙ take_all c.loop-j.j c.args.own.now c.loop-j-test.false

pub returns-clause-start : goal.returns-clause-start
returns-clause-start g c = c.loop-j.invariant.start ∙ c.keep-n.ensures.start

pub overflow_mul-place : goal.overflow_mul-place
overflow_mul-place g c = omega (arith, rank_low (g.F.Ring.degree c.args.field.now) c.k-k.result c.args.word c.k-k.ensures (g.met.F.Ring.laws c.args.field.now).small c.requires.word)
