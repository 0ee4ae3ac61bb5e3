-- That the pairs that certificates record exist. Source: this project's own.
use Rattle.std.specs.Prelude.{ℕ, List, length}
use Rattle.net_core.specs.NetList.{NetList}
use Rattle.net_core.specs.Order.{IsElimination}
use Rattle.poly_mixed.specs.Steps.{Step}
use Rattle.circuit_model.specs.Circuit.{Circuit}
use Rattle.circuit_model.specs.WellFormed.{IsWellFormed}
use Rattle.circuit_model.specs.Word.{Word}
use Rattle.stage_model.specs.Cut.{IsCut}
use Rattle.stage_model.specs.CutSteps.{AreStepsTo}
use Rattle.stage_model.specs.Stage.{HasPolynomial}
use Rattle.stage_model.specs.WordSteps.{AreWordSteps}

-- those of all gates in an order of elimination, where each cut has a polynomial
abbrev pub HaveCutPairs : Type 0
HaveCutPairs =
    (k : ℕ) (mul : ℕ → ℕ → ℕ) (net : NetList) (variables : List ℕ) (output : Word) → ((t : ℕ) → HasPolynomial k mul (IsCut net variables output t))
    → (order : List ℕ) → IsElimination net order → (pairs : List Step) × AreStepsTo k mul net variables output order (length net.gates) pairs

-- those of all words of a well-formed circuit
abbrev pub HaveWordPairs : Type 0
HaveWordPairs = (circuit : Circuit) → IsWellFormed circuit → (pairs : List Step) × AreWordSteps circuit pairs
