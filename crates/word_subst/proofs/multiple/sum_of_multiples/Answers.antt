use Rattle.std.proofs.Common.{ap, length, arith}
use Rattle.poly_mixed.proofs.FieldLaws.{field_of}
use Rattle.word_subst.proofs.MultipleLemmas.{no_multiples, power_at, more_multiples, product_end}
use Rattle.word_subst.proofs.multiple.sum_of_multiples.Goals as goal

pub loop-exponent-init : goal.loop-exponent-init
loop-exponent-init g c =
    let f = field_of _ _ (g.met.F.Ring.laws c.args.field.now) (g.met.F.Field.no_zero_divisors c.args.field.now) in
    let none = no_multiples f c.args.left.now c.args.right.now c.powers-exponent-items.result.now c.requires.left c.requires.right c.powers-exponent-items.ensures c.zero-out.result c.zero-out.ensures in
    record { univariate = none.0; values = none.1 }

pub shifted-requires-clause-by : goal.shifted-requires-clause-by
shifted-requires-clause-by g c =
    let f = field_of _ _ (g.met.F.Ring.laws c.args.field.now) (g.met.F.Field.no_zero_divisors c.args.field.now) in
    power_at f c.args.left.now c.args.right.now c.powers-exponent-items.result.now c.requires.left c.requires.right c.powers-exponent-items.ensures c.loop-exponent.exponent-index c.loop-exponent-test.true

pub loop-exponent-preserved : goal.loop-exponent-preserved
loop-exponent-preserved g c =
    let f = field_of _ _ (g.met.F.Ring.laws c.args.field.now) (g.met.F.Field.no_zero_divisors c.args.field.now) in
    record {
      univariate = c.in_ok-out.ensures.univariate;
      values = more_multiples f c.args.left.now c.args.right.now c.powers-exponent-items.result.now c.requires.left c.requires.right c.powers-exponent-items.ensures c.loop-exponent.exponent-index c.loop-exponent.out c.in_ok-part.part c.in_ok-out.out c.loop-exponent-test.true
          c.in_ok-part.ensures c.in_ok-out.ensures c.loop-exponent.invariant.values;
    }

pub returns : goal.returns
returns g c =
    product_end (field_of _ _ (g.met.F.Ring.laws c.args.field.now) (g.met.F.Field.no_zero_divisors c.args.field.now)) c.args.left.now c.args.right.now c.loop-exponent.out c.loop-exponent.exponent-index c.requires.left
    (omega (arith, c.loop-exponent-test.false, ap length c.powers-exponent-items.ensures)) c.loop-exponent.invariant.univariate c.loop-exponent.invariant.values
