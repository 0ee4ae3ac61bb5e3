-- What the program wrote of an answer. Source: this project's own.
use Rattle.std.specs.Prelude.{◌≡◌, ◌⊎◌, ◌<◌, ℕ, List, length, take, Option, Some, Result, Ok, Err}
use Rattle.std.specs.Io.KnownBytes.{Appends, Keeps}
use Rattle.outcome.specs.Outcome.{Outcome}
use Rattle.job_io.specs.Shelf.{Files}
use Rattle.job_words.specs.declared.fault.Fault.{Fault}
use Rattle.job_words.specs.Fault.{fault_line, fault_status}
use Rattle.job_words.specs.Operands.{Word}
use Rattle.job_words.specs.Stop.{IsMiss}
use Rattle.job_input.specs.Reads.{Rises}
use Rattle.answer_core.specs.Reply.{Reply}
use Rattle.gf_abs.specs.Answer.{Answer}

-- an output that may come, or the line of a fault that may come, with its status
abbrev pub IsText : Outcome Fault Reply → (missed : Type 0) → ℕ → List ℕ → Type 0
IsText answer missed status text =
    answer (Ok (record { status = status; text = text }))
    ⊎ ((fault : Fault) × answer (Err fault) × (IsMiss fault → missed) × (text ≡ fault_line fault) × (status ≡ fault_status fault))

-- it was written whole, and the status is its own
abbrev pub Writes : Outcome Fault Reply → (missed : Type 0) → ℕ → Option (List ℕ) → Option (List ℕ) → Type 0
Writes answer missed status old new = (text : List ℕ) × IsText answer missed status text × Appends old new text

-- the sink failed, and less than the whole was written
abbrev pub WritesPart : Outcome Fault Reply → (missed failed : Type 0) → Option (List ℕ) → Option (List ℕ) → Type 0
WritesPart answer missed failed old new =
    failed × (status : ℕ) × (text : List ℕ) × (n : ℕ) × IsText answer missed status text × (n < length text) × Appends old new (take n text)

-- the answer or the fault's line was written whole, and the status is its own
abbrev pub IsWritten : Result Reply Fault → ℕ → Option (List ℕ) → Option (List ℕ) → Type 0
IsWritten (Ok reply) status old new = (status ≡ reply.status) × Appends old new reply.text
IsWritten (Err fault) status old new = (status ≡ fault_status fault) × Appends old new (fault_line fault)

-- a reply of which this is said was written whole
pub record IsAppended (Says : Reply → Type 0) (old new : Option (List ℕ)) : Type 0 where
  pub reply : Reply
  pub says : Says reply
  pub appended : Appends old new reply.text

-- ---- of a run, by what the shelf holds and counts before it and after it, and by what the sink got and counts

-- the answer to the words was written whole, with this status
abbrev pub WritesWhole : {S K : Type 0} → List Word → (held : S → Option Files) (misses : S → ℕ) (old new : S) → (status : ℕ) → (written : K → Option (List ℕ)) (before after : K) → Type 0
WritesWhole words held misses old new status written before after = Writes (Answer words (held old)) (Rises misses old new) status (written before) (written after)

-- the shelf failed and nothing was written, or the sink failed and less than the whole of the answer was
abbrev pub OutsideFailed : {S K : Type 0} → List Word → (held : S → Option Files) (misses faults : S → ℕ) (old new : S) → (refusals : K → ℕ) (written : K → Option (List ℕ)) (before after : K) → Type 0
OutsideFailed words held misses faults old new refusals written before after =
    (Rises faults old new × Keeps (written before) (written after))
    ⊎ WritesPart (Answer words (held old)) (Rises misses old new) (Rises refusals before after) (written before) (written after)

-- where neither the shelf nor the sink failed, memory was wanted, or the answer or the fault's line was written whole with its status
abbrev pub IsWrittenUnlessFailed : {S K : Type 0} → (faults : S → ℕ) (old new : S) → (refusals : K → ℕ) (written : K → Option (List ℕ)) (before after : K) → Result Reply Fault → (status : ℕ) → Type 0
IsWrittenUnlessFailed faults old new refusals written before after outcome status =
    (Rises faults old new → ⊥) → (Rises refusals before after → ⊥) → (status ≡ 5) ⊎ IsWritten outcome status (written before) (written after)

-- so it is with each answer or fault that comes of the words, where the shelf tells what it holds
abbrev pub WritesEachAnswer : {S K : Type 0} → List Word → (held : S → Option Files) (faults : S → ℕ) (old new : S) → (refusals : K → ℕ) (written : K → Option (List ℕ)) (before after : K) → (status : ℕ) → Type 0
WritesEachAnswer words held faults old new refusals written before after status =
    (files : Files) (outcome : Result Reply Fault) → held old ≡ Some files → Answer words (Some files) outcome → IsWrittenUnlessFailed faults old new refusals written before after outcome status

-- where the shelf tells what it holds, an answer or a fault comes of the words, and it was written whole, unless the outside or memory
-- failed
abbrev pub WritesItsAnswer : {S K : Type 0} → List Word → (held : S → Option Files) (faults : S → ℕ) (old new : S) → (refusals : K → ℕ) (written : K → Option (List ℕ)) (before after : K) → (status : ℕ) → Type 0
WritesItsAnswer words held faults old new refusals written before after status =
    (files : Files) → held old ≡ Some files → (outcome : Result Reply Fault) × Answer words (Some files) outcome × IsWrittenUnlessFailed faults old new refusals written before after outcome status
