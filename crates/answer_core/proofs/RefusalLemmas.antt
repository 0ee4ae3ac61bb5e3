-- The refusal of a fault is what comes of its job, and that of a stage what comes of a job whose stages it belongs to.
use Rattle.std.proofs.Common.{◌≡◌, refl, sym, subst, ℕ, List, length, Option, None, Some, Err, arith}
use Rattle.outcome.specs.Outcome.{Outcome, Within}
use Rattle.net_words.specs.Binding.{BoundNet}
use Rattle.poly_mixed.specs.Labels.{Labelling}
use Rattle.poly_mixed.specs.declared.stage.ReduceFault.{ReduceFault}
use Rattle.poly_mixed.specs.declared.stage.ReduceFault.TheVariants as reduce
use Rattle.poly_mixed.specs.declared.stage.Stage.{Stage}
use Rattle.poly_mixed.specs.declared.stage.Stage.TheVariants.{Cut, WordProduct, WordSum, SpecProduct, SpecSum, InstanceProduct, InstanceSum}
use Rattle.circuit_model.specs.Circuit.{Circuit}
use Rattle.stage_model.specs.CircuitListing.{bound_cuts}
use Rattle.stage_model.specs.Listing.{Listing, Earlier, Later, followed_by, AreAllWithin, IsOver, IsRefusal}
use Rattle.stage_model.specs.WordListing.{word_listing}
use Rattle.stage_model.proofs.ListingLemmas.{earlier_over, later_over}
use Rattle.job_words.specs.declared.fault.Fault.{Fault}
use Rattle.job_words.specs.declared.fault.Fault.TheVariants as faults
use Rattle.job_words.specs.declared.stop.Stop.{Stop}
use Rattle.job_words.specs.declared.stop.Stop.TheVariants as stops
use Rattle.job_words.specs.StageFault.{stage_text}
use Rattle.job_words.specs.Stop.{GivesBy, IsMiss}
use Rattle.answer_core.specs.Staged.{Staged, either_text}
use Rattle.answer_core.specs.StageStop.{IsNamed, stage_fault, IsRefusalOf, IsStageStop, IsStopOf}

-- ---- stops of faults

-- the fault, where there is one, is none of a missing file
abbrev pub IsNoMiss : Option Fault → Type 0
IsNoMiss None = Unit {0}
IsNoMiss (Some fault) = IsMiss fault → ⊥

module _ {X A : Type 0} (view : X → A) (outcome : Outcome Fault A) where
  refused_for : (fault : Fault) (stop : Stop) → (IsMiss fault → ⊥) → outcome (Err fault) → IsRefusalOf fault stop → GivesBy view (Err stop) outcome ⊥ ⊥
  refused_for fault (stops.Refused refused) other may same =
      let P : Fault → Type 0 = λ f. outcome (Err f) in
      let Q : Fault → Type 0 = IsMiss in
      (subst P (sym same) may, λ miss. other (subst Q same miss))
  refused_for fault stops.Outside other may same = absurd same
  refused_for fault stops.OutOfMemory other may same = tt

  -- a stop of a fault that may come is one that may come
  pub stopped : (fault : Option Fault) (stop : Stop) → IsNoMiss fault → ((f : Fault) → fault ≡ Some f → outcome (Err f)) → IsStopOf fault stop → GivesBy view (Err stop) outcome ⊥ ⊥
  stopped (Some fault) stop other may is = refused_for fault stop other (may fault refl) is
  stopped None stop other may same =
      let P : Stop → Type 0 = λ s. GivesBy view (Err s) outcome ⊥ ⊥ in
      subst P (sym same) tt

-- ---- stops of stages

module _ (k : ℕ) (mul : ℕ → ℕ → ℕ) {X A : Type 0} (view : X → A) (bound : ℕ) (is : A → Type 0) where
  -- the first stage over the bound is refused by its name
  pub stage_refused : {N : Type 0} (listing : Listing N) (called : N → List ℕ) (name : N) (n : ℕ) (stop : Stop) → IsOver k mul listing bound name n → IsRefusalOf (stage_fault (called name) n bound) stop → GivesBy view (Err stop) (Within faults.Stage (Staged k mul listing called bound is)) ⊥ ⊥
  stage_refused listing called name n (stops.Refused refused) over same =
      let P : Fault → Type 0 = λ f. IsMiss f in
      ((record { stage = called name; terms = n; bound = bound }, record { name = name; over = over; text = refl; most = refl }, same), λ miss. subst P same miss)
  stage_refused listing called name n stops.Outside over same = absurd same
  stage_refused listing called name n stops.OutOfMemory over same = tt

  pub wanting : {N : Type 0} (listing : Listing N) (called : N → List ℕ) (stop : Stop) → stop ≡ stops.OutOfMemory → GivesBy view (Err stop) (Within faults.Stage (Staged k mul listing called bound is)) ⊥ ⊥
  wanting listing called stop same =
      let P : Stop → Type 0 = λ s. GivesBy view (Err s) (Within faults.Stage (Staged k mul listing called bound is)) ⊥ ⊥ in
      subst P (sym same) tt

  -- a refusal of the stages of one listing
  pub one_refused : (listing : Listing Stage) (labels : Labelling) (fault : ReduceFault) (stop : Stop) → IsRefusal k mul listing bound fault → IsStageStop labels fault bound stop → GivesBy view (Err stop) (Within faults.Stage (Staged k mul listing (stage_text labels) bound is)) ⊥ ⊥
  one_refused listing labels (reduce.TooManyTerms stage n) stop over same = stage_refused listing (stage_text labels) stage n stop over same
  one_refused listing labels reduce.OutOfMemory stop over same = wanting listing (stage_text labels) stop same

  -- a refusal of the stages of the first of two
  pub earlier_refused : (first second : Listing Stage) (labels : Labelling) (fault : ReduceFault) (stop : Stop) → IsRefusal k mul first bound fault → IsStageStop labels fault bound stop → GivesBy view (Err stop) (Within faults.Stage (Staged k mul (followed_by first second) (either_text labels) bound is)) ⊥ ⊥
  earlier_refused first second labels (reduce.TooManyTerms stage n) stop over same = stage_refused (followed_by first second) (either_text labels) (Earlier stage) n stop ((earlier_over k mul first second bound stage n).1 over) same
  earlier_refused first second labels reduce.OutOfMemory stop over same = wanting (followed_by first second) (either_text labels) stop same

  -- a refusal of the stages of the second, where those of the first are within the bound
  pub later_refused : (first second : Listing Stage) (labels : Labelling) (fault : ReduceFault) (stop : Stop) → AreAllWithin k mul first bound → IsRefusal k mul second bound fault → IsStageStop labels fault bound stop → GivesBy view (Err stop) (Within faults.Stage (Staged k mul (followed_by first second) (either_text labels) bound is)) ⊥ ⊥
  later_refused first second labels (reduce.TooManyTerms stage n) stop all over same = stage_refused (followed_by first second) (either_text labels) (Later stage) n stop ((later_over k mul first second bound stage n).1 (all, over)) same
  later_refused first second labels reduce.OutOfMemory stop all over same = wanting (followed_by first second) (either_text labels) stop same

-- a cut needs no word
pub cuts_named : (k : ℕ) (mul : ℕ → ℕ → ℕ) (b : BoundNet) (basis : List ℕ) (count bound : ℕ) (fault : ReduceFault) → IsRefusal k mul (bound_cuts b basis) bound fault → IsNamed count fault
cuts_named k mul b basis count bound (reduce.TooManyTerms (Cut t) n) over = tt
cuts_named k mul b basis count bound (reduce.TooManyTerms (WordProduct w s j) n) over = absurd over.listed
cuts_named k mul b basis count bound (reduce.TooManyTerms (WordSum w s) n) over = absurd over.listed
cuts_named k mul b basis count bound (reduce.TooManyTerms (SpecProduct s j) n) over = absurd over.listed
cuts_named k mul b basis count bound (reduce.TooManyTerms (SpecSum s) n) over = absurd over.listed
cuts_named k mul b basis count bound (reduce.TooManyTerms (InstanceProduct i s j) n) over = absurd over.listed
cuts_named k mul b basis count bound (reduce.TooManyTerms (InstanceSum i s) n) over = absurd over.listed
cuts_named k mul b basis count bound reduce.OutOfMemory over = tt

-- a stage of words is one of words that the circuit has
pub words_named : (k : ℕ) (mul : ℕ → ℕ → ℕ) (circuit : Circuit) (count bound : ℕ) (fault : ReduceFault) → length circuit.words ≡ count → IsRefusal k mul (word_listing circuit) bound fault → IsNamed count fault
words_named k mul circuit count bound (reduce.TooManyTerms (Cut t) n) same over = absurd over.listed
words_named k mul circuit count bound (reduce.TooManyTerms (WordProduct w s j) n) same over = let less = over.listed.word in omega (arith, same, less)
words_named k mul circuit count bound (reduce.TooManyTerms (WordSum w s) n) same over = let less = over.listed.word in omega (arith, same, less)
words_named k mul circuit count bound (reduce.TooManyTerms (SpecProduct s j) n) same over = absurd over.listed
words_named k mul circuit count bound (reduce.TooManyTerms (SpecSum s) n) same over = absurd over.listed
words_named k mul circuit count bound (reduce.TooManyTerms (InstanceProduct i s j) n) same over = absurd over.listed
words_named k mul circuit count bound (reduce.TooManyTerms (InstanceSum i s) n) same over = absurd over.listed
words_named k mul circuit count bound reduce.OutOfMemory same over = tt
