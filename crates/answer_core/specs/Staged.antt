-- What comes of a job with a listing of stages and a bound on their terms. Source: this project's own.
use Rattle.std.specs.Prelude.{◌≡◌, ℕ, List, ◌++◌, codes, Ok, Err}
use Rattle.outcome.specs.Outcome.{Outcome}
use Rattle.poly_mixed.specs.Labels.{Labelling}
use Rattle.poly_mixed.specs.declared.stage.Stage.{Stage}
use Rattle.stage_model.specs.Listing.{Listing, Joined, Earlier, Later, AreAllWithin, IsOver}
use Rattle.job_words.specs.declared.stage_fault.StageFault.{StageFault}
use Rattle.job_words.specs.StageFault.{stage_text}

-- what a stage of one of two listings is called
abbrev pub either_text : Labelling → Joined Stage Stage → List ℕ
either_text labels (Earlier stage) = stage_text labels stage
either_text labels (Later stage) = stage_text labels stage

-- what a stage of the second of two netlists is called
abbrev pub second_text : Labelling → Stage → List ℕ
second_text labels stage = codes "second " ++ stage_text labels stage

-- what a stage of one of two netlists is called
abbrev pub either_net_text : Labelling → Joined Stage Stage → List ℕ
either_net_text labels (Earlier stage) = stage_text labels stage
either_net_text labels (Later stage) = second_text labels stage

module _ (k : ℕ) (product : ℕ → ℕ → ℕ) {N : Type 0} (listing : Listing N) (called : N → List ℕ) (bound : ℕ) where
  -- the fault of the first stage of the listing over the bound: what the stage is called, its size, and the bound
  pub record IsStageOver (fault : StageFault) : Type 0 where
    pub name : N
    pub over : IsOver k product listing bound name fault.terms
    pub text : fault.stage ≡ called name
    pub most : fault.bound ≡ bound

  -- the value, where no stage is over the bound, or the fault of the first
  abbrev pub Staged : {A : Type 0} → (A → Type 0) → Outcome StageFault A
  Staged is (Ok value) = is value × AreAllWithin k product listing bound
  Staged is (Err fault) = IsStageOver fault
