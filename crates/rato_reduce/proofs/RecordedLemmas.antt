-- The pairs of the eliminations so far, and what a recorder has told of them.
use Rattle.std.proofs.Common.{◌≡◌, ℕ, suc, List, [], ◌++◌, Option, Some, refl}
use Rattle.std.specs.Prelude.{slice_get}
use Rattle.net_core.specs.GateValue.{GateValue}
use Rattle.net_core.specs.NetList.{NetList}
use Rattle.poly_mixed.specs.Polynomial.{Terms}
use Rattle.poly_mixed.specs.Steps.{Step, Tells}
use Rattle.circuit_model.specs.Word.{Word}
use Rattle.stage_model.specs.Variables.{rank_in}
use Rattle.stage_model.specs.Stage.{IsOfStage}
use Rattle.stage_model.specs.Cut.{IsCut}
use Rattle.stage_model.specs.CutSteps.{AreStepsAt, AreStepsTo}
use Rattle.poly_mixed.proofs.RecorderLemmas.{tells_none, tells_more}

-- the same, in this order
pub record IsRecordedBy (k : ℕ) (mul : ℕ → ℕ → ℕ) (net : NetList) (variables : List ℕ) (output : Word) (order : List ℕ) (t : ℕ) (old new : Option (List Step)) : Type 0 where
  pub steps : List Step
  pub are : AreStepsTo k mul net variables output order t steps
  pub told : Tells old new steps

module _ (k : ℕ) (mul : ℕ → ℕ → ℕ) (net : NetList) (variables : List ℕ) (output : Word) (order : List ℕ) where
  pub nothing_recorded : (old : Option (List Step)) → IsRecordedBy k mul net variables output order 0 old old
  nothing_recorded old = record { steps = []; are = refl; told = tells_none old }

  pub one_recorded : (t position : ℕ) (gate : GateValue) (terms : Terms) (made : List Step) (old mid new : Option (List Step)) → slice_get order t ≡ Some position → slice_get net.gates position ≡ Some gate
      → IsOfStage k mul (IsCut net variables output t) terms → AreStepsAt k (rank_in variables gate.out) gate.out terms made
      → IsRecordedBy k mul net variables output order t old mid → Tells mid new made → IsRecordedBy k mul net variables output order (suc t) old new
  one_recorded t position gate terms made old mid new at_order at_net before are so_far tells = record {
    steps = so_far.steps ++ made;
    are = (so_far.steps, made, so_far.are, record { position = position; gate = gate; terms = terms; at_order = at_order; at_net = at_net; before = before; are = are }, refl);
    told = tells_more old mid new so_far.steps made so_far.told tells;
  }
