use Rattle.std.proofs.Common.{◌≡◌, ◌∙◌, ap, sym, subst, refl, ℕ, ◌-◌, ◌*◌, List, get_or, Some, arith}
use Rattle.std.specs.Prelude.{slice_get}
use Rattle.std.proofs.lemmas.Result.{on_ok_weaker}
use Rattle.gf_basis.specs.BasisParts.{elements_of}
use Rattle.poly_mixed.specs.Monomial.{Monomial}
use Rattle.poly_mixed.proofs.FieldLaws.{field_of}
use Rattle.poly_mixed.proofs.ValueLemmas.{zero_element}
use Rattle.stage_model.specs.WordStage.{word_bits}
use Rattle.word_subst.specs.Univariate.{IsPower, IsMultiple}
use Rattle.word_subst.proofs.GroupLemmas.{some_powers}
use Rattle.word_subst.proofs.OneTermLemmas.{rank_low, place_in, later_rises}
use Rattle.word_subst.proofs.ToldLemmas.{got_index, has_earlier, made_product, next_told}
use Rattle.word_subst.proofs.tell.tell_bit.Goals as goal

pub at-requires : goal.at-requires
at-requires g c = has_earlier (g.F.Ring.degree c.args.field.now) (g.F.Ring.product c.args.field.now) (elements_of c.args._basis.now) c.args.word c.args._bound c.args.products.now c.args.own.now c.requires.followed.products c.requires.own c.args.j c.requires.place

pub scaled-requires-clause-powers : goal.scaled-requires-clause-powers
scaled-requires-clause-powers g c = (c.requires.followed.products.each c.args.j c.at.result.now c.at.ensures).univariate

pub scaled-requires-clause-c : goal.scaled-requires-clause-c
scaled-requires-clause-c g c =
    let f = field_of _ _ (g.met.F.Ring.laws c.args.field.now) (g.met.F.Field.no_zero_divisors c.args.field.now) in
    let P : ℕ → Type 0 = λ x. IsPower (g.F.Ring.degree c.args.field.now) (0, x) in
    subst P (sym c.coefficient.ensures) (record { exponent = zero_element f; element = c.requires.followed.term.element; some = c.requires.followed.some })

pub spread_poly-requires-clause-some : goal.spread_poly-requires-clause-some
spread_poly-requires-clause-some g c = some_powers (g.F.Ring.degree c.args.field.now) c.in_ok-part.part c.in_ok-part.ensures.multiple.univariate

pub with_bits-requires-clause-product : goal.with_bits-requires-clause-product
with_bits-requires-clause-product g c =
    let k : ℕ = g.F.Ring.degree c.args.field.now in
    let mul : ℕ → ℕ → ℕ = g.F.Ring.product c.args.field.now in
    let w : ℕ = c.args.word in
    let is = c.requires.followed in
    let f = field_of k mul (g.met.F.Ring.laws c.args.field.now) (g.met.F.Field.no_zero_divisors c.args.field.now) in
    let P : ℕ → Type 0 = λ x. IsMultiple k mul (0, x) c.at.result.now c.in_ok-part.part in
    (made_product f (elements_of c.args._basis.now) w c.requires.word c.args.term.now is.term is.some c.args._bound c.args.products.now is.products is.ranks is.start c.args.j c.at.result.now c.in_ok-part.part c.args.others.now
    c.in_ok-product.product.terms c.at.ensures c.requires.others (subst P c.coefficient.ensures c.in_ok-part.ensures.multiple) c.in_ok-product.ensures).reduced

pub with_bits-requires-clause-rising : goal.with_bits-requires-clause-rising
with_bits-requires-clause-rising g c = later_rises (g.F.Ring.degree c.args.field.now) c.args.word c.args.term.now c.args.own.now c.args.own.now c.args.j c.requires.followed.term (c.requires.own ∙ c.requires.followed.ranks) refl

pub overflow_sub-place : goal.overflow_sub-place
overflow_sub-place g c =
    let r : ℕ = get_or c.args.own.now c.args.j 0 in
    let P : List ℕ → Type 0 = λ xs. slice_get xs c.args.j ≡ Some r in
    (place_in (g.F.Ring.degree c.args.field.now) c.args.word c.args.term.now c.k-k.result c.args.j r c.k-k.ensures (subst P (c.requires.own ∙ c.requires.followed.ranks) (got_index c.args.own.now c.args.j c.requires.place))).0

pub returns : goal.returns
returns g c =
    let k : ℕ = g.F.Ring.degree c.args.field.now in
    let mul : ℕ → ℕ → ℕ = g.F.Ring.product c.args.field.now in
    let els : List ℕ = elements_of c.args._basis.now in
    let w : ℕ = c.args.word in
    let t : Monomial × ℕ = c.args.term.now in
    let own : List ℕ = c.args.own.now in
    let j : ℕ = c.args.j in
    let is = c.requires.followed in
    let f = field_of k mul (g.met.F.Ring.laws c.args.field.now) (g.met.F.Field.no_zero_divisors c.args.field.now) in
    let own_are : own ≡ word_bits k w t = c.requires.own ∙ is.ranks in
    let P : ℕ → Type 0 = λ x. IsMultiple k mul (0, x) c.at.result.now c.in_ok-part.part in
    on_ok_weaker c.step.result (λ told first so_far. next_told f els w c.requires.word t is.term is.some c.args._bound c.args.products.now is.products is.ranks is.start own j (get_or own j 0 - c.k-k.result * w) c.at.result.now c.in_ok-part.part c.args.others.now
    c.in_ok-product.product.terms c.in_ok-multiplier.multiplier.terms first (g.T.Steps.steps c.args.steps.now) (g.T.Steps.steps c.step.new.self) own_are c.requires.place (ap (λ x. get_or own j 0 - x * w) c.k-k.ensures) c.at.ensures
    c.requires.others (subst P c.coefficient.ensures c.in_ok-part.ensures.multiple) c.in_ok-product.ensures c.in_ok-multiplier.ensures so_far told) c.step.ensures

pub overflow_mul-place : goal.overflow_mul-place
overflow_mul-place g c = omega (arith, rank_low (g.F.Ring.degree c.args.field.now) c.k-k.result c.args.word c.k-k.ensures (g.met.F.Ring.laws c.args.field.now).small c.requires.word)
