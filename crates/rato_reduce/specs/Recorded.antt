-- The pairs that a recorder holds after the first eliminations. Source: this project's own.
use Rattle.std.specs.Prelude.{ℕ, List, Option, length}
use Rattle.net_core.specs.GateValue.{GateValue}
use Rattle.net_core.specs.NetList.{nets}
use Rattle.net_words.specs.Binding.{BoundNet}
use Rattle.net_words.specs.Variables.{variables}
use Rattle.poly_mixed.specs.Polynomial.{Terms}
use Rattle.poly_mixed.specs.Steps.{Step, Tells}
use Rattle.circuit_model.specs.OfBinding.{output_word}
use Rattle.stage_model.specs.Variables.{rank_in}
use Rattle.stage_model.specs.CutSteps.{AreCutSteps, AreStepsAt}

-- where the recorder tells its pairs, it holds what it held and then those of the first t eliminations
pub record IsRecorded (k : ℕ) (mul : ℕ → ℕ → ℕ) (circuit : BoundNet) (basis : List ℕ) (t : ℕ) (old new : Option (List Step)) : Type 0 where
  pub steps : List Step
  pub are : AreCutSteps k mul circuit.net (variables (nets circuit.net) circuit.binding.words) (output_word circuit.binding.words basis) t steps
  pub told : Tells old new steps

-- where the recorder tells its pairs, it holds what it held and then those of all eliminations
abbrev pub AreAllRecorded : ℕ → (ℕ → ℕ → ℕ) → BoundNet → List ℕ → Option (List Step) → Option (List Step) → Type 0
AreAllRecorded k mul circuit basis old new = IsRecorded k mul circuit basis (length circuit.net.gates) old new

-- where the recorder tells its pairs, it holds what it held and then those at a gate's output in these terms
abbrev pub IsGateRecorded : ℕ → List ℕ → GateValue → Terms → Option (List Step) → Option (List Step) → Type 0
IsGateRecorded k variables gate terms old new = (made : List Step) × AreStepsAt k (rank_in variables gate.out) gate.out terms made × Tells old new made
