use Rattle.std.proofs.Common.{ℕ, ◌∙◌, arith, pow_pos, pow-suc, add-one, length-set, replicate}
use Rattle.std.proofs.Math.ListN.{length-replicate}
use Rattle.std.proofs.lemmas.Nat.{one_shl}
use Rattle.gf_field.proofs.CopyLemmas.{zeros}
use Rattle.irreducible.proofs.PivotLaws.{rank_none, rank_kept, rank_more}
use Rattle.irreducible.proofs.MatrixLaws.{choices_start, choices_more}
use Rattle.irreducible.proofs.KernelLemmas.{kernel_start, kernel_kept, kernel_more, low_kept, low_more}
use Rattle.irreducible.proofs.elimination.eliminated.Goals as goal
use Rattle.irreducible.proofs.elimination.eliminated.Goals.{then-step-ne0, else-step-ne0}

pub loop-i-init : goal.loop-i-init
loop-i-init c = record {
  so_far = rank_none c.args.rows.now;
  choices_of = choices_start c.args.rows.now (replicate 64 0) (replicate 64 0) (zeros 64) (zeros 64);
  low = λ t. rw (zeros 64 t) (pow_pos 0);
  kernel_of = kernel_start c.args.rows.now;
  whole_vectors = length-replicate {A = ℕ} 64 0;
  few = omega arith;
  whole = length-replicate {A = ℕ} 64 0;
  whole_choices = length-replicate {A = ℕ} 64 0;
}

pub loop-i-preserved : goal.loop-i-preserved
loop-i-preserved c = elim c.if-step-ne0.branch [
  | then-step-ne0 w ↦ record {
    so_far = rw (w.sums-is, w.rank-is, add-one c.loop-i.i, add-one c.loop-i.rank)
        (rank_more c.args.rows.now c.loop-i.sums c.loop-i.i c.loop-i.rank c.reduced-step.result.left c.reduced-step.result.used w.ilog2-place.result c.loop-i.invariant.so_far c.reduced-step.ensures
        (record { low = w.ilog2-place.ensures.power_le; high = omega (arith, w.ilog2-place.ensures.next_power_gt, pow-suc 2 w.ilog2-place.result) })
        (omega (arith, w.ilog2-place.ensures.bound, c.loop-i.invariant.whole)));
    choices_of = rw (w.sums-is, w.choices-is, one_shl c.loop-i.i 64 (omega arith), w.combined.ensures)
        (choices_more c.args.rows.now c.loop-i.sums c.loop-i.choices c.loop-i.i c.reduced-step.result.left c.reduced-step.result.used w.ilog2-place.result c.loop-i.invariant.choices_of (omega arith) c.reduced-step.ensures (omega arith) (omega (arith, w.ilog2-place.ensures.bound)));
    low = rw (w.choices-is, one_shl c.loop-i.i 64 (omega arith), w.combined.ensures) (low_more c.loop-i.choices c.loop-i.i w.ilog2-place.result c.reduced-step.result.used (omega (arith, w.ilog2-place.ensures.bound)) c.loop-i.invariant.low);
    kernel_of = rw (w.vectors-is) (kernel_kept c.args.rows.now c.loop-i.sums c.loop-i.vectors c.loop-i.i c.loop-i.rank c.reduced-step.result.left c.reduced-step.result.used w.ilog2-place.result c.loop-i.invariant.so_far c.reduced-step.ensures
        (record { low = w.ilog2-place.ensures.power_le; high = omega (arith, w.ilog2-place.ensures.next_power_gt, pow-suc 2 w.ilog2-place.result) })
        c.loop-i.invariant.kernel_of);
    whole_vectors = rw (w.vectors-is) c.loop-i.invariant.whole_vectors;
    few = omega arith;
    whole = rw (w.sums-is) (length-set c.loop-i.sums w.ilog2-place.result c.reduced-step.result.left ∙ c.loop-i.invariant.whole);
    whole_choices = rw (w.choices-is) (length-set c.loop-i.choices w.ilog2-place.result _ ∙ c.loop-i.invariant.whole_choices);
  }
  | else-step-ne0 w ↦ record {
    so_far = rw (w.sums-is, w.rank-is, add-one) (rank_kept _ _ _ _ c.reduced-step.result.left c.reduced-step.result.used c.loop-i.invariant.so_far c.reduced-step.ensures (omega arith));
    choices_of = rw (w.sums-is, w.choices-is) c.loop-i.invariant.choices_of;
    low = rw (w.choices-is) (low_kept c.loop-i.choices c.loop-i.i c.loop-i.invariant.low);
    kernel_of = rw (w.vectors-is, one_shl c.loop-i.i 64 (omega arith), w.combined-else-step-ne0.ensures)
        (kernel_more c.args.rows.now c.loop-i.sums c.loop-i.choices c.loop-i.vectors c.loop-i.i c.reduced-step.result.left c.reduced-step.result.used c.loop-i.invariant.choices_of (omega arith) c.reduced-step.ensures (omega arith) (omega arith) c.loop-i.invariant.low c.loop-i.invariant.kernel_of);
    whole_vectors = rw (w.vectors-is) (length-set c.loop-i.vectors c.loop-i.i _ ∙ c.loop-i.invariant.whole_vectors);
    few = omega arith;
    whole = rw (w.sums-is) c.loop-i.invariant.whole;
    whole_choices = rw (w.choices-is) c.loop-i.invariant.whole_choices;
  }
]
