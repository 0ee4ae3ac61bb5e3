use Rattle.std.proofs.Common.{◌∙◌, ◌<◌, ◌≤◌, refl, arith, length, length-set}
use Rattle.std.proofs.lemmas.Option.{slice_get_within}
use Rattle.net_core.proofs.EvalLemmas.{input_step}
use Rattle.net_core.proofs.valuation.input_bits.Goals as goal

pub loop-i-preserved : goal.loop-i-preserved
loop-i-preserved c =
    let less : c.loop-i.i < length c.args.net.now.inputs = rw c.inputs-input-items.ensures.inputs at c.loop-i-test.true in
    record {
      long = length-set _ _ _ ∙ c.loop-i.invariant.long;
      each = rw c.inputs-input-items.ensures.inputs (input_step c.args.net.now c.args.values.now c.loop-i.bits.items c.loop-i.i _ c.inputs-input-items.ensures.inside c.requires.one c.loop-i.invariant.long less refl c.loop-i.invariant.each);
    }

pub returns-clause-values : goal.returns-clause-values
returns-clause-values c = λ i n v input value.
    let past : length c.args.net.now.inputs ≤ c.loop-i.i = rw c.inputs-input-items.ensures.inputs at c.loop-i-test.false in
    c.loop-i.invariant.each i (omega (arith, slice_get_within c.args.net.now.inputs i n input, past)) n v input value
