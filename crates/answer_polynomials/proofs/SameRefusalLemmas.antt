-- The refusal of a cut of one of two netlists is what comes of their comparison.
use Rattle.std.proofs.Common.{ℕ, Err}
use Rattle.outcome.specs.Outcome.{Within}
use Rattle.poly_mixed.specs.Labels.{Labelling}
use Rattle.poly_mixed.specs.declared.stage.ReduceFault.{ReduceFault}
use Rattle.poly_mixed.specs.declared.stage.ReduceFault.TheVariants as reduce
use Rattle.poly_mixed.specs.declared.stage.Stage.{Stage}
use Rattle.stage_model.specs.Listing.{Listing, Earlier, Later, followed_by, AreAllWithin, IsRefusal}
use Rattle.stage_model.proofs.ListingLemmas.{earlier_over, later_over}
use Rattle.job_words.specs.declared.fault.Fault.TheVariants as faults
use Rattle.job_words.specs.declared.stop.Stop.{Stop}
use Rattle.job_words.specs.Stop.{GivesBy}
use Rattle.answer_core.specs.Staged.{Staged, either_net_text, second_text}
use Rattle.answer_core.specs.StageStop.{IsStageStop, IsStopCalled}
use Rattle.answer_core.proofs.RefusalLemmas.{stage_refused, wanting}

module _ (k : ℕ) (mul : ℕ → ℕ → ℕ) {X A : Type 0} (view : X → A) (bound : ℕ) (is : A → Type 0) (first second : Listing Stage) (labels : Labelling) where
  pub first_refused : (fault : ReduceFault) (stop : Stop) → IsRefusal k mul first bound fault → IsStageStop labels fault bound stop → GivesBy view (Err stop) (Within faults.Stage (Staged k mul (followed_by first second) (either_net_text labels) bound is)) ⊥ ⊥
  first_refused (reduce.TooManyTerms stage n) stop over same = stage_refused k mul view bound is (followed_by first second) (either_net_text labels) (Earlier stage) n stop ((earlier_over k mul first second bound stage n).1 over) same
  first_refused reduce.OutOfMemory stop over same = wanting k mul view bound is (followed_by first second) (either_net_text labels) stop same

  pub second_refused : (fault : ReduceFault) (stop : Stop) → AreAllWithin k mul first bound → IsRefusal k mul second bound fault → IsStopCalled (second_text labels) fault bound stop → GivesBy view (Err stop) (Within faults.Stage (Staged k mul (followed_by first second) (either_net_text labels) bound is)) ⊥ ⊥
  second_refused (reduce.TooManyTerms stage n) stop all over same = stage_refused k mul view bound is (followed_by first second) (either_net_text labels) (Later stage) n stop ((later_over k mul first second bound stage n).1 (all, over)) same
  second_refused reduce.OutOfMemory stop all over same = wanting k mul view bound is (followed_by first second) (either_net_text labels) stop same
