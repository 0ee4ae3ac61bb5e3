-- All stages of a circuit with bound words: its cuts, and then those of its words. Source: this project's own.
use Rattle.std.specs.Prelude.{ℕ, List, Option, map, length}
use Rattle.net_words.specs.Binding.{BoundNet}
use Rattle.gf_basis.specs.BasisParts.{elements_of}
use Rattle.gf_basis.specs.declared.bases.Basis.{Basis}
use Rattle.poly_mixed.specs.Polynomial.{Terms}
use Rattle.poly_mixed.specs.Steps.{Step}
use Rattle.poly_mixed.specs.declared.stage.ReduceFault.{ReduceFault}
use Rattle.poly_mixed.specs.declared.stage.ReduceFault.TheVariants.{TooManyTerms, OutOfMemory}
use Rattle.poly_mixed.specs.declared.stage.Stage.{Stage}
use Rattle.poly_mixed.specs.declared.stage.Stage.TheVariants.{Cut, WordProduct, WordSum, SpecProduct, SpecSum, InstanceProduct, InstanceSum}
use Rattle.circuit_model.specs.OfBinding.{circuit_with, output_basis}
use Rattle.stage_model.specs.CircuitListing.{bound_cuts}
use Rattle.stage_model.specs.Cut.{BoundCut}
use Rattle.stage_model.specs.Listing.{followed_by, IsOver, Joined, Earlier, Later, Listing}
use Rattle.stage_model.specs.Stage.{IsOfStage}
use Rattle.stage_model.specs.WordListing.{word_listing}
use Rattle.rato_reduce.specs.Recorded.{IsRecorded}

-- the cuts, where these are the elements of each word's basis
abbrev pub cut_stages : BoundNet → List (List ℕ) → Listing Stage
cut_stages netlist bases = bound_cuts netlist (output_basis netlist.binding.words bases)

-- these are the terms of the last cut
abbrev pub IsLastCut : ℕ → (ℕ → ℕ → ℕ) → BoundNet → List (List ℕ) → Terms → Type 0
IsLastCut k mul netlist bases ts = IsOfStage k mul (BoundCut netlist (output_basis netlist.binding.words bases) (length netlist.net.gates)) ts

-- where the recorder tells its pairs, it holds what it held and then those of all gates
abbrev pub HasCutPairs : ℕ → (ℕ → ℕ → ℕ) → BoundNet → List (List ℕ) → Option (List Step) → Option (List Step) → Type 0
HasCutPairs k mul netlist bases old new = IsRecorded k mul netlist (output_basis netlist.binding.words bases) (length netlist.net.gates) old new

-- the cuts, and then the stages of words
abbrev pub all_stages : ℕ → (ℕ → ℕ → ℕ) → BoundNet → List (List ℕ) → Listing (Joined Stage Stage)
all_stages k mul netlist bases = followed_by (cut_stages netlist bases) (word_listing (circuit_with k mul netlist bases))

-- the stages in these bases
abbrev pub stages_in : ℕ → (ℕ → ℕ → ℕ) → BoundNet → List Basis → Listing (Joined Stage Stage)
stages_in k mul netlist bases = all_stages k mul netlist (map elements_of bases)

-- a cut is one of the first stages, and all others are later ones
abbrev pub joined : Stage → Joined Stage Stage
joined (Cut t) = Earlier (Cut t)
joined (WordProduct w s j) = Later (WordProduct w s j)
joined (WordSum w s) = Later (WordSum w s)
joined (SpecProduct s j) = Later (SpecProduct s j)
joined (SpecSum s) = Later (SpecSum s)
joined (InstanceProduct i s j) = Later (InstanceProduct i s j)
joined (InstanceSum i s) = Later (InstanceSum i s)

-- the first stage over the bound, with its size; out of memory is free
abbrev pub IsFirstRefusal : ℕ → (ℕ → ℕ → ℕ) → Listing (Joined Stage Stage) → ℕ → ReduceFault → Type 0
IsFirstRefusal k mul listing bound (TooManyTerms stage n) = IsOver k mul listing bound (joined stage) n
IsFirstRefusal k mul listing bound OutOfMemory = Unit {0}
