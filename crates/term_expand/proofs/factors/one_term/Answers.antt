use Rattle.std.proofs.Common.{◌≡◌, ◌∙◌, refl, subst, ap, ℕ, List, [], ◌≤◌, drop, length, map, arith}
use Rattle.poly_mixed.specs.Polynomial.{IsPolynomialOf, Point}
use Rattle.term_expand.specs.SumValue.{factors_of}
use Rattle.term_expand.specs.Feeds.{feed_values}
use Rattle.term_expand.proofs.LeftLemmas.{none_left, pairs_end}
use Rattle.term_expand.proofs.SumValueLemmas.{factors_few}
use Rattle.term_expand.proofs.StageLemmas.{all_reached, constant_of}
use Rattle.term_expand.proofs.factors.one_term.Goals as goal

pub loop-pair-init : goal.loop-pair-init
loop-pair-init g c =
    let k : ℕ = g.F.Ring.degree c.args.field.now in
    let mul : ℕ → ℕ → ℕ = g.F.Ring.product c.args.field.now in
    let ring = g.met.F.Ring.laws c.args.field.now in
    let free = g.met.F.Field.no_zero_divisors c.args.field.now in
    let feeds : Point → List ℕ = feed_values mul (map (λ f. f.now.terms) c.args.feeds.now) in
    let P : ℕ → Type 0 = λ a. IsPolynomialOf k mul (λ p. a) c.in_ok-poly.poly.terms in
    record { rest = refl; reached = constant_of k mul feeds ring free c.args.term.now c.args.bound c.in_ok-poly.poly.terms c.requires.term.element (subst P c.coefficient.ensures c.in_ok-poly.ensures) }

pub one_pair-requires-clause-few : goal.one_pair-requires-clause-few
one_pair-requires-clause-few g c = omega (arith, factors_few c.args.term.now.1, c.powers-powers.ensures.few, ap length c.powers-powers.ensures.value)

pub returns-clause-reached : goal.returns-clause-reached
returns-clause-reached g c =
    let k : ℕ = g.F.Ring.degree c.args.field.now in
    let mul : ℕ → ℕ → ℕ = g.F.Ring.product c.args.field.now in
    let ps : List (ℕ × ℕ) = c.args.term.now.1 in
    let fs : List (ℕ × ℕ) = factors_of ps in
    let last : length ps ≤ c.loop-pair.pair = omega (arith, c.loop-pair-test.false, ap length c.powers-powers.ensures.value) in
    let none : drop c.loop-pair.reached.factors fs ≡ [] = c.loop-pair.invariant.rest ∙ pairs_end c.loop-pair.pair ps last in
    all_reached k mul (feed_values mul (map (λ f. f.now.terms) c.args.feeds.now)) c.args.term.now c.args.bound c.loop-pair.reached.factors c.loop-pair.reached.poly.terms (none_left fs c.loop-pair.reached.factors none) c.loop-pair.invariant.reached
