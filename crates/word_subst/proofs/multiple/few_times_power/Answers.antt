use Rattle.std.proofs.Common.{◌∙◌, ap, sym, subst, ℕ, ◌<◌, ◌≤◌, ◌^◌, get_or}
use Rattle.poly_mixed.specs.Product.{add_exponent}
use Rattle.word_subst.proofs.MappedLemmas.{mapped_more, mapped_all, pair_power}
use Rattle.word_subst.proofs.multiple.few_times_power.Goals as goal

pub sum_exponent-requires-clause-some : goal.sum_exponent-requires-clause-some
sum_exponent-requires-clause-some g c =
    let P : ℕ → Type 0 = λ n. 1 ≤ n in
    subst P (sym c.k-k.ensures) (g.met.F.Ring.laws c.args.field.now).some

pub sum_exponent-requires-clause-most : goal.sum_exponent-requires-clause-most
sum_exponent-requires-clause-most g c =
    let P : ℕ → Type 0 = λ n. n ≤ 64 in
    subst P (sym c.k-k.ensures) (g.met.F.Ring.laws c.args.field.now).small

pub sum_exponent-requires-clause-right : goal.sum_exponent-requires-clause-right
sum_exponent-requires-clause-right g c =
    let P : ℕ → Type 0 = λ n. c.args.exponent < 2 ^ n in
    subst P (sym c.k-k.ensures) c.requires.exponent

pub sum_exponent-requires-clause-left : goal.sum_exponent-requires-clause-left
sum_exponent-requires-clause-left g c =
    let P : ℕ → Type 0 = λ n. (get_or c.args.powers.now c.loop-e.e-index (0, 0)).0 < 2 ^ n in
    subst P (sym c.k-k.ensures) (pair_power (g.F.Ring.degree c.args.field.now) c.args.powers.now c.loop-e.e-index c.loop-e-test.true c.requires.powers).exponent

pub mul-requires-clause-second : goal.mul-requires-clause-second
mul-requires-clause-second g c = (pair_power (g.F.Ring.degree c.args.field.now) c.args.powers.now c.loop-e.e-index c.loop-e-test.true c.requires.powers).element

pub loop-e-preserved : goal.loop-e-preserved
loop-e-preserved g c =
    let k : ℕ = g.F.Ring.degree c.args.field.now in
    let mul : ℕ → ℕ → ℕ = g.F.Ring.product c.args.field.now in
    let i : ℕ = c.loop-e.e-index in
    let t : ℕ × ℕ = get_or c.args.powers.now i (0, 0) in
    mapped_more (λ (u : ℕ × ℕ). (add_exponent k u.0 c.args.exponent, mul c.args.c u.1)) c.args.powers.now c.loop-e.out c.push.new.self i (0, 0) (c.sum_exponent.result, c.mul.result) c.loop-e-test.true
    (λ j. ((c.sum_exponent.ensures ∙ ap (λ n. add_exponent n t.0 c.args.exponent) c.k-k.ensures) j, c.mul.ensures.product j)) c.in_ok-push.ensures c.loop-e.invariant

pub returns : goal.returns
returns g c =
    let k : ℕ = g.F.Ring.degree c.args.field.now in
    let mul : ℕ → ℕ → ℕ = g.F.Ring.product c.args.field.now in
    mapped_all (λ (u : ℕ × ℕ). (add_exponent k u.0 c.args.exponent, mul c.args.c u.1)) c.args.powers.now c.loop-e.out c.loop-e.e-index c.loop-e-test.false c.loop-e.invariant
