-- What functions that read files give, for their clauses. Source: this project's own.
use Rattle.std.specs.Prelude.{ℕ, Option, Result}
use Rattle.outcome.specs.Outcome.{Outcome}
use Rattle.job_io.specs.Counts.{Rose}
use Rattle.job_io.specs.Shelf.{Files}
use Rattle.job_words.specs.Stop.{GivesBy}
use Rattle.job_words.specs.declared.fault.Fault.{Fault}
use Rattle.job_words.specs.declared.stop.Stop.{Stop}

-- a count of a shelf or a sink rose from one of its states to another
abbrev pub Rises : {S : Type 0} → (count : S → ℕ) (old new : S) → Type 0
Rises count old new = Rose (count old) (count new)

-- The value, as `view` shows it, or the fault is one that may come of what the shelf holds. Where a file was missed, the shelf's misses
-- rose, and where the outside failed, its faults.
abbrev pub GivesOver : {S X A : Type 0} → (held : S → Option Files) (misses faults : S → ℕ) (old new : S) → (X → A) → Result X Stop → (Option Files → Outcome Fault A) → Type 0
GivesOver held misses faults old new view result answer = GivesBy view result (answer (held old)) (Rises misses old new) (Rises faults old new)

-- so it is with the value itself
abbrev pub ReadsOver : {S A : Type 0} → (held : S → Option Files) (misses faults : S → ℕ) (old new : S) → Result A Stop → (Option Files → Outcome Fault A) → Type 0
ReadsOver held misses faults old new result answer = GivesBy (λ value. value) result (answer (held old)) (Rises misses old new) (Rises faults old new)
