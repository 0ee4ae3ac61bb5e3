-- What functions that read files answer, and functions that read none: for their clauses. Source: this project's own.
use Rattle.std.specs.Prelude.{ℕ, length, Option, Result}
use Rattle.outcome.specs.Outcome.{Outcome}
use Rattle.poly_mixed.specs.Labels.{Labelling}
use Rattle.circuit_model.specs.Differing.{Difference}
use Rattle.spec_compare.specs.Verdict.{comparison_of}
use Rattle.spec_compare.specs.declared.verdict.Verdict.{Verdict}
use Rattle.job_io.specs.Shelf.{Files}
use Rattle.job_words.specs.Stop.{GivesBy}
use Rattle.job_words.specs.declared.fault.Fault.{Fault}
use Rattle.job_words.specs.declared.stop.Stop.{Stop}
use Rattle.job_input.specs.Reads.{Rises}
use Rattle.answer_core.specs.declared.output.Output.{Output}
use Rattle.answer_core.specs.Reply.{Reply, reply_of}

-- The reply of an output or the fault is one that may come of what the shelf holds. Where a file was missed, the shelf's misses rose, and
-- where the outside failed, its faults.
abbrev pub Replies : {S : Type 0} → (held : S → Option Files) (misses faults : S → ℕ) (old new : S) → Result Output Stop → (Option Files → Outcome Fault Reply) → Type 0
Replies held misses faults old new result answer = GivesBy reply_of result (answer (held old)) (Rises misses old new) (Rises faults old new)

-- the reply of an output or the fault is one that may come; no file is read, and the outside does not fail
abbrev pub RepliesAlone : Result Output Stop → Outcome Fault Reply → Type 0
RepliesAlone result answer = GivesBy reply_of result answer ⊥ ⊥

-- so it is with the comparison that a verdict says, of as many words as the labels have
abbrev pub ComparesAlone : Labelling → Result Verdict Stop → Outcome Fault (Option Difference) → Type 0
ComparesAlone labels result found = GivesBy (comparison_of (length labels.words)) result found ⊥ ⊥
