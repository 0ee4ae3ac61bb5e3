-- The stages of words of a circuit, where the polynomial in bits is the output's: that of the mix of no words.
-- Source: this project's own.
use Rattle.std.specs.Prelude.{ℕ, List, Option, length}
use Rattle.poly_mixed.specs.Polynomial.{Terms}
use Rattle.poly_mixed.specs.Steps.{Step}
use Rattle.poly_mixed.specs.declared.stage.ReduceFault.{ReduceFault}
use Rattle.poly_mixed.specs.declared.stage.ReduceFault.TheVariants.{TooManyTerms, OutOfMemory}
use Rattle.poly_mixed.specs.declared.stage.Stage.{Stage}
use Rattle.circuit_model.specs.Circuit.{Circuit}
use Rattle.stage_model.specs.Listing.{AreAllWithin, IsOver, IsRefusal}
use Rattle.stage_model.specs.Mix.{IsMix}
use Rattle.stage_model.specs.Stage.{IsOfStage}
use Rattle.stage_model.specs.WordListing.{word_listing}
use Rattle.word_subst.specs.Recorded.{IsRecorded}

-- the polynomial of the mix of no words
abbrev pub IsOfNoWords : Circuit → Terms → Type 0
IsOfNoWords circuit ts = IsOfStage circuit.k circuit.product (IsMix circuit 0) ts

-- the polynomial of the mix of all words
abbrev pub IsOfAllWords : Circuit → Terms → Type 0
IsOfAllWords circuit ts = IsOfStage circuit.k circuit.product (IsMix circuit (length circuit.words)) ts

-- no stage of the circuit's words is over the bound
abbrev pub AreWordStagesWithin : Circuit → ℕ → Type 0
AreWordStagesWithin circuit bound = AreAllWithin circuit.k circuit.product (word_listing circuit) bound

-- the first stage of the circuit's words over the bound, with its size; out of memory is free
abbrev pub IsWordStageRefusal : Circuit → ℕ → ReduceFault → Type 0
IsWordStageRefusal circuit bound fault = IsRefusal circuit.k circuit.product (word_listing circuit) bound fault

module _ (circuit : Circuit) (bits : Terms) where
  -- where `bits` is that of the mix of no words, ts is that of the mix of all words
  pub record IsWholeMix (ts : Terms) : Type 0 where
    pub is : IsOfNoWords circuit bits → IsOfAllWords circuit ts

  -- where `bits` is that of the mix of no words, no stage of the circuit's words is over the bound
  pub record HasStagesWithin (bound : ℕ) : Type 0 where
    pub are : IsOfNoWords circuit bits → AreWordStagesWithin circuit bound

  -- where `bits` is that of the mix of no words, the stage is the first of the circuit's words over the bound, and has n terms
  pub record IsFirstStage (bound : ℕ) (stage : Stage) (n : ℕ) : Type 0 where
    pub is : IsOfNoWords circuit bits → IsOver circuit.k circuit.product (word_listing circuit) bound stage n

  -- that stage with its size; out of memory is free
  abbrev pub IsStageFault : ℕ → ReduceFault → Type 0
  IsStageFault bound (TooManyTerms stage n) = IsFirstStage bound stage n
  IsStageFault bound OutOfMemory = Unit {0}

  -- where `bits` is that of the mix of no words, the recorder holds what it held and then the pairs of all words
  pub record HasPairs (old new : Option (List Step)) : Type 0 where
    pub are : IsOfNoWords circuit bits → IsRecorded circuit old new
