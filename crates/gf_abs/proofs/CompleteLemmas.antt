-- The one answer that comes is the one that was written.
use Rattle.std.proofs.Common.{◌≡◌, ◌⊎◌, refl, subst, inl, inr, ℕ, List, Option, None, Some, Result, Ok, Err}
use Rattle.std.specs.Io.KnownBytes.{Appends, Keeps}
use Rattle.job_io.specs.Shelf.{Files}
use Rattle.job_words.specs.Operands.{Word}
use Rattle.answer_core.specs.Reply.{Reply}
use Rattle.gf_abs.specs.Answer.{Answer}
use Rattle.gf_abs.specs.Written.{IsText, Writes, WritesPart, IsWritten}
use Rattle.job_words.specs.declared.fault.Fault.{Fault}
use Rattle.gf_abs.proofs.AnswerDetermined.{answer_determined}
use Rattle.gf_abs.proofs.AnswerExists.{some_answer}

module _ (words : List Word) (files : Files) (old new : Option (List ℕ)) where
  same : (a b : Result Reply Fault) (status : ℕ) → Answer words (Some files) a → Answer words (Some files) b → IsWritten a status old new → IsWritten b status old new
  same a b status one other written =
      let P : Result Reply Fault → Type 0 = λ o. IsWritten o status old new in
      subst P (answer_determined files words a b one other) written

  by_text : (missed : Type 0) (status : ℕ) (text : List ℕ) → IsText (Answer words (Some files)) missed status text → Appends old new text → (outcome : Result Reply Fault) → Answer words (Some files) outcome → IsWritten outcome status old new
  by_text missed status text (inl reply) appends outcome may = same (Ok (record { status = status; text = text })) outcome status reply may (refl, appends)
  by_text missed status text (inr refused) appends outcome may =
      let P : List ℕ → Type 0 = λ t. Appends old new t in
      same (Err refused.0) outcome status refused.1 may (refused.4, subst P refused.3 appends)

  pub written : (held : Option Files) (missed : Type 0) (status : ℕ) → held ≡ Some files → Writes (Answer words held) missed status old new → (outcome : Result Reply Fault) → Answer words (Some files) outcome → IsWritten outcome status old new
  written held missed status told writes outcome may =
      let P : Option Files → Type 0 = λ h. Writes (Answer words h) missed status old new in
      let w = subst P told writes in
      by_text missed status w.0 w.1 w.2 outcome may

pub keeps_same : (bytes : Option (List ℕ)) → Keeps bytes bytes
keeps_same None = tt
keeps_same (Some bytes) = refl

-- so it was, unless the outside or memory fails
pub answered : (words : List Word) (held : Option Files) (missed : Type 0) (status : ℕ) (old new : Option (List ℕ)) (shelf_failed sink_failed : Type 0) → (status ≡ 4) ⊎ (status ≡ 5) ⊎ Writes (Answer words held) missed status old new → (status ≡ 4 → (shelf_failed × Keeps old new) ⊎ WritesPart (Answer words held) missed sink_failed old new)
    → (files : Files) (outcome : Result Reply Fault) → held ≡ Some files → Answer words (Some files) outcome → (shelf_failed → ⊥) → (sink_failed → ⊥) → (status ≡ 5) ⊎ IsWritten outcome status old new
answered words held missed status old new shelf_failed sink_failed (inl four) failed files outcome told may shelf sink = elim (failed four) [
  | inl kept ↦ absurd (shelf kept.0)
  | inr part ↦ absurd (sink part.0)
]
answered words held missed status old new shelf_failed sink_failed (inr (inl five)) failed files outcome told may shelf sink = inl five
answered words held missed status old new shelf_failed sink_failed (inr (inr writes)) failed files outcome told may shelf sink = inr (written words files old new held missed status told writes outcome may)

-- there is one, and so it was
pub answer_written : (words : List Word) (held : Option Files) (missed : Type 0) (status : ℕ) (old new : Option (List ℕ)) (shelf_failed sink_failed : Type 0) → (status ≡ 4) ⊎ (status ≡ 5) ⊎ Writes (Answer words held) missed status old new → (status ≡ 4 → (shelf_failed × Keeps old new) ⊎ WritesPart (Answer words held) missed sink_failed old new)
    → (files : Files) → held ≡ Some files → (outcome : Result Reply Fault) × Answer words (Some files) outcome × ((shelf_failed → ⊥) → (sink_failed → ⊥) → (status ≡ 5) ⊎ IsWritten outcome status old new)
answer_written words held missed status old new shelf_failed sink_failed answers failed files told =
    let some = some_answer words (Some files) in
    (some.0, some.1, answered words held missed status old new shelf_failed sink_failed answers failed files some.0 told some.1)
