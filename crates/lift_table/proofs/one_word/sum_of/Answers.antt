use Rattle.std.proofs.Common.{◌≡◌, ◌∙◌, ap, refl, length, get_or, arith}
use Rattle.std.proofs.lemmas.Nat.{pow_pos}
use Rattle.std.specs.Int.Bits.{xor_lt}
use Rattle.gf_field.specs.Polynomial.{sum_of_first}
use Rattle.lift_table.proofs.OneWordLemmas.{sum_more}
use Rattle.lift_table.proofs.one_word.sum_of.Goals as goal

pub loop-value-init : goal.loop-value-init
loop-value-init g c = record { sum = refl; element = pow_pos (g.F.Ring.degree c.args._field.now) }

pub loop-value-preserved : goal.loop-value-preserved
loop-value-preserved g c = record {
  sum = sum_more c.args.values.now c.loop-value.value-index c.loop-value.sum c.loop-value.invariant.sum;
  element = xor_lt (g.F.Ring.degree c.args._field.now) c.loop-value.sum _ c.loop-value.invariant.element (c.requires c.loop-value.value-index c.loop-value-test.true);
}

pub returns-clause-sum : goal.returns-clause-sum
returns-clause-sum g c =
    let end : c.loop-value.value-index ≡ length c.args.values.now = omega arith in
    c.loop-value.invariant.sum ∙ ap (λ n. sum_of_first n (λ y. get_or c.args.values.now y 0)) end
