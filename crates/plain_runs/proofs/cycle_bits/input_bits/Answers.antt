use Rattle.std.proofs.Common.{◌≡◌, ◌∙◌, ap, subst, ℕ, Bool, List, length, Some, arith, length-set}
use Rattle.std.specs.Prelude.{slice_get, slice_index_or}
use Rattle.std.proofs.lemmas.Option.{slice_get_within, slice_get-get_or}
use Rattle.plain_runs.specs.private.Cycle.{IsInputBit}
use Rattle.plain_runs.proofs.CycleBitLemmas.{net_done, input_inside}
use Rattle.plain_runs.proofs.cycle_bits.input_bits.Goals as goal

pub loop-input-preserved : goal.loop-input-preserved
loop-input-preserved g c =
    let net = c.args.net.now in
    let i : ℕ = c.loop-input.input-index in
    let n : ℕ = slice_index_or c.inputs-input-items.result.now i 0 in
    let P : List ℕ → Type 0 = λ ns. slice_get ns i ≡ Some n in
    let got : slice_get net.inputs i ≡ Some n = subst P c.inputs-input-items.ensures.inputs (slice_get-get_or c.inputs-input-items.result.now i 0 c.loop-input-test.true) in
    let Q : ℕ → Bool → Type 0 = IsInputBit c.args.words.now c.args.xs.now c.args.feeds.now c.args.cycle in
    let inside = input_inside net c.inputs-input-items.ensures.sound n (i, got) in
    record {
      long = length-set c.loop-input.bits.items n c.input_bit.result ∙ c.loop-input.invariant.long;
      done = net_done Q net.inputs c.loop-input.bits.items i n c.input_bit.result (omega (arith, inside, c.loop-input.invariant.long)) got c.input_bit.ensures c.loop-input.invariant.done;
    }

pub returns-clause-inputs : goal.returns-clause-inputs
returns-clause-inputs g c = λ n has. c.loop-input.invariant.done has.0 n (omega (arith, slice_get_within c.args.net.now.inputs has.0 n has.1, c.loop-input-test.false, ap length c.inputs-input-items.ensures.inputs)) has.1
