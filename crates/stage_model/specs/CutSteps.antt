-- The pairs of generator and multiplier that the elimination of gates records. Source: this project's own.
use Rattle.std.specs.Prelude.{◌≡◌, ℕ, zero, suc, List, [], ◌∷◌, ◌++◌, Some, slice_get}
use Rattle.net_core.specs.NetList.{NetList}
use Rattle.net_core.specs.GateValue.{GateValue}
use Rattle.net_core.specs.Order.{IsElimination}
use Rattle.poly_mixed.specs.Polynomial.{Terms, IsReduced}
use Rattle.poly_mixed.specs.Cofactor.{LacksBit, IsCofactor}
use Rattle.poly_mixed.specs.Steps.{Step}
use Rattle.poly_mixed.specs.declared.steps.Generator.TheVariants.{Net}
use Rattle.circuit_model.specs.Word.{Word}
use Rattle.stage_model.specs.Variables.{rank_in}
use Rattle.stage_model.specs.Stage.{IsOfStage}
use Rattle.stage_model.specs.Cut.{IsCut}

-- a net, and the terms that have its bit, without it
pub record IsNetStep (k rank n : ℕ) (ts : Terms) (steps : List Step) : Type 0 where
  pub cofactor : Terms
  pub reduced : IsReduced k cofactor
  pub is : IsCofactor rank ts cofactor
  pub steps_are : steps ≡ (Net n, cofactor) ∷ []

-- the pairs at a net: none where its bit stands in no term, and else one
pub record AreStepsAt (k rank n : ℕ) (ts : Terms) (steps : List Step) : Type 0 where
  pub absent : LacksBit rank ts → steps ≡ []
  pub present : (LacksBit rank ts → ⊥) → IsNetStep k rank n ts steps

module _ (k : ℕ) (mul : ℕ → ℕ → ℕ) (net : NetList) (variables : List ℕ) (output : Word) where
  -- the pairs of the elimination number t: those at the output of that gate, in the polynomial of the cut before
  pub record AreStepsOf (order : List ℕ) (t : ℕ) (steps : List Step) : Type 0 where
    pub position : ℕ
    pub gate : GateValue
    pub terms : Terms
    pub at_order : slice_get order t ≡ Some position
    pub at_net : slice_get net.gates position ≡ Some gate
    pub before : IsOfStage k mul (IsCut net variables output t) terms
    pub are : AreStepsAt k (rank_in variables gate.out) gate.out terms steps

  -- the pairs of the first t eliminations
  abbrev pub AreStepsTo : List ℕ → ℕ → List Step → Type 0
  AreStepsTo order zero steps = steps ≡ []
  AreStepsTo order (suc t) steps = (front : List Step) × (last : List Step) × AreStepsTo order t front × AreStepsOf order t last × (steps ≡ front ++ last)

  -- the pairs of the first t eliminations in the order of elimination
  pub record AreCutSteps (t : ℕ) (steps : List Step) : Type 0 where
    pub order : List ℕ
    pub elimination : IsElimination net order
    pub are : AreStepsTo order t steps
