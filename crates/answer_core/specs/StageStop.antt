-- Why no output comes of a fault, as where a stage is too large: for the clauses of private functions. Source: this project's own.
use Rattle.std.specs.Prelude.{◌≡◌, ℕ, List, Option, None, Some}
use Rattle.poly_mixed.specs.Labels.{Labelling}
use Rattle.poly_mixed.specs.declared.stage.ReduceFault.{ReduceFault}
use Rattle.poly_mixed.specs.declared.stage.Stage.{Stage}
use Rattle.poly_mixed.specs.declared.stage.ReduceFault.TheVariants as reduce
use Rattle.job_words.specs.declared.fault.Fault.{Fault}
use Rattle.job_words.specs.declared.fault.Fault.TheVariants as faults
use Rattle.job_words.specs.declared.stop.Stop.{Stop}
use Rattle.job_words.specs.declared.stop.Stop.TheVariants as stops
use Rattle.job_words.specs.StageFault.{stage_text, HasItsWord}

-- the stage's word is one of so many words
abbrev pub IsNamed : ℕ → ReduceFault → Type 0
IsNamed count (reduce.TooManyTerms stage n) = HasItsWord count stage
IsNamed count reduce.OutOfMemory = Unit {0}

-- the fault of a stage of this name and size
abbrev pub stage_fault : List ℕ → ℕ → ℕ → Fault
stage_fault name n bound = faults.Stage (record { stage = name; terms = n; bound = bound })

-- it is this refusal, or memory is wanted for its text
abbrev pub IsRefusalOf : Fault → Stop → Type 0
IsRefusalOf fault (stops.Refused refused) = refused ≡ fault
IsRefusalOf fault stops.Outside = ⊥
IsRefusalOf fault stops.OutOfMemory = Unit {0}

-- the refusal of the fault, where there is one; else memory was wanted
abbrev pub IsStopOf : Option Fault → Stop → Type 0
IsStopOf (Some fault) stop = IsRefusalOf fault stop
IsStopOf None stop = stop ≡ stops.OutOfMemory

-- the refusal of the stage that is too large, by what it is called; or memory was wanted
abbrev pub IsStopCalled : (Stage → List ℕ) → ReduceFault → ℕ → Stop → Type 0
IsStopCalled called (reduce.TooManyTerms stage n) bound stop = IsRefusalOf (stage_fault (called stage) n bound) stop
IsStopCalled called reduce.OutOfMemory bound stop = stop ≡ stops.OutOfMemory

-- the refusal of the stage that is too large, by its own text; or memory was wanted
abbrev pub IsStageStop : Labelling → ReduceFault → ℕ → Stop → Type 0
IsStageStop labels = IsStopCalled (stage_text labels)
