-- How a step of a job ends. Source: this project's own.
use Rattle.std.specs.Prelude.{ℕ, List, Vec, Result, Ok, Err}
use Rattle.std.specs.declared.alloc.Global.{Global}
use Rattle.outcome.specs.Outcome.{Outcome}
use Rattle.job_words.specs.declared.fault.Fault.{Fault}
use Rattle.job_words.specs.declared.fault.Fault.TheVariants.{File}
use Rattle.job_words.specs.declared.stop.Stop.{Stop}
use Rattle.job_words.specs.declared.stop.Stop.TheVariants.{Refused, Outside, OutOfMemory}

-- a file was absent or too long
abbrev pub IsMiss : Fault → Type 0
IsMiss (File fault) = Unit {0}
IsMiss fault = ⊥

-- The value, as view shows it, or the fault is one that may come. A fault of a missing file has its cause, and so has a failure of the outside.
abbrev pub GivesBy : {X A : Type 0} → (X → A) → Result X Stop → Outcome Fault A → (missed failed : Type 0) → Type 0
GivesBy view (Ok value) outcome missed failed = outcome (Ok (view value))
GivesBy view (Err (Refused fault)) outcome missed failed = outcome (Err fault) × (IsMiss fault → missed)
GivesBy view (Err Outside) outcome missed failed = failed
GivesBy view (Err OutOfMemory) outcome missed failed = Unit {0}

-- the bytes of a vector
abbrev pub bytes_of : Vec ℕ Global → List ℕ
bytes_of bytes = bytes.items
