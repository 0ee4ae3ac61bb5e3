-- The cuts of a circuit as a listing, and all its stages. Source: this project's own.
use Rattle.std.specs.Prelude.{ℕ, ◌+◌, List, length}
use Rattle.poly_mixed.specs.Polynomial.{Point}
use Rattle.poly_mixed.specs.declared.stage.Stage.{Stage}
use Rattle.net_words.specs.Binding.{BoundNet}
use Rattle.circuit_model.specs.Circuit.{Circuit}
use Rattle.circuit_model.specs.BasedNet.{BasedNet, based_circuit, based_output_basis}
use Rattle.stage_model.specs.Cut.{CutOf, BoundCut}
use Rattle.stage_model.specs.Listing.{Listing, CircuitStage, followed_by, cut_listing, IsOver, AreAllWithin}
use Rattle.stage_model.specs.WordListing.{word_listing}

-- the cuts of a circuit, one for each number of gates that are eliminated
abbrev pub circuit_cuts : Circuit → Listing Stage
circuit_cuts circuit = cut_listing (length circuit.net.gates + 1) (CutOf circuit)

-- the cuts of a net list with bound words, where the output word has this basis
abbrev pub bound_cuts : BoundNet → List ℕ → Listing Stage
bound_cuts circuit basis = cut_listing (length circuit.net.gates + 1) (BoundCut circuit basis)

-- all stages of a circuit: its cuts, and then those of its words
abbrev pub circuit_stages : Circuit → Listing CircuitStage
circuit_stages circuit = followed_by (circuit_cuts circuit) (word_listing circuit)

-- the cuts of a net list in bases, where its circuit is not made
abbrev pub based_cuts : BasedNet → Listing Stage
based_cuts based = bound_cuts based.netlist (based_output_basis based)

-- its cuts, and then the stages of the words of its circuit
abbrev pub based_stages : BasedNet → Listing CircuitStage
based_stages based = followed_by (based_cuts based) (word_listing (based_circuit based))

module _ (circuit : Circuit) where
  -- the name is that of a stage of the circuit
  abbrev pub IsStage : CircuitStage → Type 0
  IsStage name = (circuit_stages circuit).is_listed name

  -- the stage of the name
  abbrev pub StageOf : CircuitStage → Point → ℕ → Type 0
  StageOf name = (circuit_stages circuit).stage_of name

  module _ (bound : ℕ) where
    -- of the cuts the first over the bound, with its size
    abbrev pub IsFirstOfCuts : Stage → ℕ → Type 0
    IsFirstOfCuts name n = IsOver circuit.k circuit.product (circuit_cuts circuit) bound name n

    -- of the words' stages the first over the bound, with its size
    abbrev pub IsFirstOfWords : Stage → ℕ → Type 0
    IsFirstOfWords name n = IsOver circuit.k circuit.product (word_listing circuit) bound name n

    -- of all stages the first over the bound, with its size
    abbrev pub IsFirstOfStages : CircuitStage → ℕ → Type 0
    IsFirstOfStages name n = IsOver circuit.k circuit.product (circuit_stages circuit) bound name n

    -- no cut is over the bound
    abbrev pub AreCutsWithin : Type 0
    AreCutsWithin = AreAllWithin circuit.k circuit.product (circuit_cuts circuit) bound

    -- no stage of a word is over the bound
    abbrev pub AreWordsWithin : Type 0
    AreWordsWithin = AreAllWithin circuit.k circuit.product (word_listing circuit) bound

    -- no stage is over the bound
    abbrev pub AreStagesWithin : Type 0
    AreStagesWithin = AreAllWithin circuit.k circuit.product (circuit_stages circuit) bound
