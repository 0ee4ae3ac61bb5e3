use Rattle.std.proofs.Common.{◌≡◌, ◌∙◌, ap, subst, ℕ, Bool, false, List, length, get_or, arith, length-set}
use Rattle.std.proofs.lemmas.Option.{slice_get_within}
use Rattle.circuit_model.specs.private.Found.{IsBitIn, IsOnce, IsUnnamed}
use Rattle.circuit_model.proofs.BitLemmas.{values_set}
use Rattle.circuit_model.proofs.plain.input_values.Goals as goal

pub loop-i-preserved : goal.loop-i-preserved
loop-i-preserved g c =
    let P : ℕ → Bool → Type 0 = λ n v. (IsUnnamed c.args.words.now n → v ≡ false) × (IsOnce c.args.words.now n → IsBitIn c.args.words.now c.args.xs.now n v) in
    let Q : List ℕ → Type 0 = λ ns. P (get_or ns c.loop-i.i 0) c.bit_in_words.result in
    record {
      long = length-set c.loop-i.values.items c.loop-i.i c.bit_in_words.result ∙ c.loop-i.invariant.long;
      done = values_set P c.args.net.now.inputs c.loop-i.values.items c.loop-i.i c.bit_in_words.result
          (omega (arith, c.loop-i-test.true, ap length c.inputs-input-items.ensures.inputs)) c.loop-i.invariant.long (subst Q c.inputs-input-items.ensures.inputs (c.bit_in_words.ensures.zero, c.bit_in_words.ensures.bit)) c.loop-i.invariant.done;
    }

pub returns-clause-zeros : goal.returns-clause-zeros
returns-clause-zeros g c = λ i n v input value. (c.loop-i.invariant.done i n v (omega (arith, c.loop-i-test.false, ap length c.inputs-input-items.ensures.inputs, slice_get_within c.args.net.now.inputs i n input)) input value).0

pub returns-clause-bits : goal.returns-clause-bits
returns-clause-bits g c = λ i n v input value. (c.loop-i.invariant.done i n v (omega (arith, c.loop-i-test.false, ap length c.inputs-input-items.ensures.inputs, slice_get_within c.args.net.now.inputs i n input)) input value).1
