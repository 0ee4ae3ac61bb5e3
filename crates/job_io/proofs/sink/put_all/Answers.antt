use Rattle.std.proofs.Common.{◌≡◌, arith, length, length-drop}
use Rattle.job_io.proofs.KnownLemmas.{Appends-slice}
use Rattle.job_io.proofs.sink.put_all.Goals as goal

pub loop-done-preserved : goal.loop-done-preserved
loop-done-preserved g c =
    record {
      untouched = λ none. absurd (not_below none);
      below = λ _. c.in_ok-done.ensures.counts;
      within = omega (arith, c.in_ok-done.ensures.within, length-drop c.loop-done.done c.args.piece.now);
      never_falls = omega (arith, c.in_ok-done.ensures.faults_never_fall);
      written = Appends-slice _ _ _ c.args.piece.now c.loop-done.done c.in_ok-done.field-0 c.loop-done.invariant.written c.in_ok-done.ensures.appends;
    }
  where
    not_below : length c.args.piece.now ≡ 0 → ⊥
    not_below none = omega (arith, c.loop-done-test.true, none)
