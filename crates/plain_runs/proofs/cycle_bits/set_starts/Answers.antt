use Rattle.std.proofs.Common.{◌≡◌, ◌∙◌, ap, subst, ℕ, Bool, List, length, Some, arith, length-set}
use Rattle.std.specs.Prelude.{slice_get, slice_index_or}
use Rattle.std.proofs.lemmas.Option.{slice_get_within, slice_get-get_or}
use Rattle.net_core.specs.LatchValue.{LatchValue}
use Rattle.net_core.specs.declared.latch.Start.TheVariants.{Zero}
use Rattle.plain_runs.specs.private.Cycle.{IsStartBit}
use Rattle.plain_runs.proofs.CycleBitLemmas.{latch_done, kept_step}
use Rattle.plain_runs.proofs.cycle_bits.set_starts.Goals as goal

pub loop-latch-preserved : goal.loop-latch-preserved
loop-latch-preserved g c =
    let net = c.args.net.now in
    let i : ℕ = c.loop-latch.latch-index in
    let none : LatchValue = record { next = 0; out = 0; start = Zero } in
    let l : LatchValue = slice_index_or c.latches-latch-items.result.now i none in
    let P : List LatchValue → Type 0 = λ ls. slice_get ls i ≡ Some l in
    let got : slice_get net.latches i ≡ Some l = subst P c.latches-latch-items.ensures.latches (slice_get-get_or c.latches-latch-items.result.now i none c.loop-latch-test.true) in
    let Q : LatchValue → Bool → Type 0 = IsStartBit c.args.words.now c.args.xs.now in
    let sound = c.latches-latch-items.ensures.sound in
    record {
      long = length-set c.loop-latch.bits.items l.out c.latch_bit.result ∙ c.loop-latch.invariant.long;
      kept = kept_step net sound c.args.bits.now.items c.loop-latch.bits.items l c.latch_bit.result (i, got) c.loop-latch.invariant.kept;
      done = latch_done net sound Q c.loop-latch.bits.items i l c.latch_bit.result c.loop-latch.invariant.long got c.latch_bit.ensures c.loop-latch.invariant.done;
    }

pub returns-clause-latches : goal.returns-clause-latches
returns-clause-latches g c = λ l has. c.loop-latch.invariant.done has.0 l (omega (arith, slice_get_within c.args.net.now.latches has.0 l has.1, c.loop-latch-test.false, ap length c.latches-latch-items.ensures.latches)) has.1
