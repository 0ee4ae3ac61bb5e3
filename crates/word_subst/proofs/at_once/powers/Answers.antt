use Rattle.std.proofs.Common.{◌≢◌, ◌<◌, ℕ, length}
use Rattle.gf_basis.specs.BasisParts.{elements_of}
use Rattle.poly_mixed.specs.Polynomial.{IsTerm}
use Rattle.poly_mixed.proofs.FieldLaws.{field_of}
use Rattle.word_subst.proofs.ReadFromLemmas.{one_sum, sum_more, all_summed, item_at}
use Rattle.word_subst.proofs.at_once.powers.Goals as goal

pub loop-term-preserved : goal.loop-term-preserved
loop-term-preserved g c =
    let k : ℕ = g.F.Ring.degree c.args.field.now in
    let f = field_of _ _ (g.met.F.Ring.laws c.args.field.now) (g.met.F.Field.no_zero_divisors c.args.field.now) in
    let i : ℕ = c.loop-term.term-index in
    let less : i < length c.args.terms.now = c.loop-term-test.true in
    let is = item_at c.args.terms.now i c.term-item.result (λ t. IsTerm k t.now) less c.term-item.is c.requires.terms in
    let some = item_at c.args.terms.now i c.term-item.result (λ t. t.now.1 ≢ 0) less c.term-item.is c.requires.some in
    let own = one_sum f (elements_of c.args._basis.now) c.args.word c.term-item.result.now c.in_ok-one.one is some c.requires.word c.in_ok-one.ensures in
    sum_more f (elements_of c.args._basis.now) c.args.word (λ t. t.now) c.args.terms.now i c.term-item.result c.loop-term.sum c.in_ok-one.one c.in_ok-sum.sum less c.term-item.is c.loop-term.invariant own c.in_ok-sum.ensures

pub plus-requires-clause-left : goal.plus-requires-clause-left
plus-requires-clause-left g c = c.loop-term.invariant.univariate

pub plus-requires-clause-right : goal.plus-requires-clause-right
plus-requires-clause-right g c =
    let k : ℕ = g.F.Ring.degree c.args.field.now in
    let f = field_of _ _ (g.met.F.Ring.laws c.args.field.now) (g.met.F.Field.no_zero_divisors c.args.field.now) in
    let i : ℕ = c.loop-term.term-index in
    let is = item_at c.args.terms.now i c.term-item.result (λ t. IsTerm k t.now) c.loop-term-test.true c.term-item.is c.requires.terms in
    let some = item_at c.args.terms.now i c.term-item.result (λ t. t.now.1 ≢ 0) c.loop-term-test.true c.term-item.is c.requires.some in
    (one_sum f (elements_of c.args._basis.now) c.args.word c.term-item.result.now c.in_ok-one.one is some c.requires.word c.in_ok-one.ensures).univariate

pub returns : goal.returns
returns g c =
    let f = field_of _ _ (g.met.F.Ring.laws c.args.field.now) (g.met.F.Field.no_zero_divisors c.args.field.now) in
    all_summed f (elements_of c.args._basis.now) c.args.word c.args.terms.now c.loop-term.term-index (λ t. t.now) c.loop-term.sum c.loop-term-test.false c.loop-term.invariant
