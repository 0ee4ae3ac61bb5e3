use Rattle.std.proofs.Common.{refl, sym, subst, ℕ, take, drop, length, ◌-◌}
use Rattle.std.proofs.lemmas.Result.{IfOk-weaker}
use Rattle.std.specs.List.{AllByRecursion}
use Rattle.poly_mixed.proofs.FieldLaws.{field_of}
use Rattle.word_subst.specs.Univariate.{Powers, IsPower}
use Rattle.word_subst.proofs.MultipleLemmas.{all_take, all_drop, shifted_is}
use Rattle.word_subst.proofs.multiple.shifted.Goals as goal

pub plus-requires-clause-left : goal.plus-requires-clause-left
plus-requires-clause-left g c =
    let all = c.powers-all.result.now in
    let n = c.low_count-n.result in
    (shifted_is (field_of _ _ (g.met.F.Ring.laws c.args.field.now) (g.met.F.Field.no_zero_divisors c.args.field.now)) (c.args.exponent, c.args.c) c.requires.by n c.args.powers.now all (take n all) (take (length all - n) (drop n all)) c.in_ok-low.low c.in_ok-high.high c.in_ok-high.high c.requires.powers c.powers-all.ensures refl refl
    c.low_count-n.ensures.low c.low_count-n.ensures.high c.in_ok-low.ensures c.in_ok-high.ensures).0.0

pub plus-requires-clause-right : goal.plus-requires-clause-right
plus-requires-clause-right g c =
    let all = c.powers-all.result.now in
    let n = c.low_count-n.result in
    (shifted_is (field_of _ _ (g.met.F.Ring.laws c.args.field.now) (g.met.F.Field.no_zero_divisors c.args.field.now)) (c.args.exponent, c.args.c) c.requires.by n c.args.powers.now all (take n all) (take (length all - n) (drop n all)) c.in_ok-low.low c.in_ok-high.high c.in_ok-high.high c.requires.powers c.powers-all.ensures refl refl
    c.low_count-n.ensures.low c.low_count-n.ensures.high c.in_ok-low.ensures c.in_ok-high.ensures).0.1

pub returns : goal.returns
returns g c =
    let all = c.powers-all.result.now in
    let n = c.low_count-n.result in
    IfOk-weaker c.plus.result _ _ (λ out e. (shifted_is (field_of _ _ (g.met.F.Ring.laws c.args.field.now) (g.met.F.Field.no_zero_divisors c.args.field.now)) (c.args.exponent, c.args.c) c.requires.by n c.args.powers.now all (take n all) (take (length all - n) (drop n all)) c.in_ok-low.low c.in_ok-high.high out c.requires.powers c.powers-all.ensures refl refl
    c.low_count-n.ensures.low c.low_count-n.ensures.high c.in_ok-low.ensures c.in_ok-high.ensures).1 e) c.plus.ensures

pub times_power-requires-clause-powers : goal.times_power-requires-clause-powers
times_power-requires-clause-powers g c =
    let P : Powers → Type 0 = AllByRecursion (IsPower (g.F.Ring.degree c.args.field.now)) in
    all_take (IsPower (g.F.Ring.degree c.args.field.now)) c.low_count-n.result c.powers-all.result.now (subst P (sym c.powers-all.ensures) c.requires.powers.powers)

pub times_power-requires-clause-exponent : goal.times_power-requires-clause-exponent
times_power-requires-clause-exponent g c = c.requires.by.exponent

pub times_power-requires-clause-element : goal.times_power-requires-clause-element
times_power-requires-clause-element g c = c.requires.by.element

pub times_power-requires-2-clause-powers : goal.times_power-requires-2-clause-powers
times_power-requires-2-clause-powers g c =
    let all : Powers = c.powers-all.result.now in
    let n : ℕ = c.low_count-n.result in
    let P : Powers → Type 0 = AllByRecursion (IsPower (g.F.Ring.degree c.args.field.now)) in
    all_take (IsPower (g.F.Ring.degree c.args.field.now)) (length all - n) (drop n all) (all_drop (IsPower (g.F.Ring.degree c.args.field.now)) n all (subst P (sym c.powers-all.ensures) c.requires.powers.powers))

pub times_power-requires-2-clause-exponent : goal.times_power-requires-2-clause-exponent
times_power-requires-2-clause-exponent g c = c.requires.by.exponent

pub times_power-requires-2-clause-element : goal.times_power-requires-2-clause-element
times_power-requires-2-clause-element g c = c.requires.by.element
