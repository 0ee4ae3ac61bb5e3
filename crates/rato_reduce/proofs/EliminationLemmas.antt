-- From one cut to the next.
use Rattle.std.proofs.Common.{◌≡◌, ℕ, suc, ◌<◌, Bool, List, Some, reverse, sym, subst}
use Rattle.std.specs.Prelude.{slice_get}
use Rattle.lists.specs.Lists.{Has}
use Rattle.net_core.specs.GateValue.{GateValue}
use Rattle.net_core.specs.NetList.{NetList, nets}
use Rattle.net_core.specs.Sound.{IsSound}
use Rattle.net_core.specs.Level.{Levels, AreLevels}
use Rattle.net_core.specs.Order.{IsOrder, IsElimination}
use Rattle.poly_mixed.specs.Polynomial.{Terms, Point, IsReduced}
use Rattle.circuit_model.specs.Word.{Word, HasElement}
use Rattle.stage_model.specs.Cut.{IsSettled, IsCut}
use Rattle.stage_model.specs.Stage.{IsOfStage}
use Rattle.rato_reduce.specs.GatePoint.{with_gate, HasGatePutIn}
use Rattle.stage_model.proofs.GateStepLemmas.{step}

-- the output word's element, where the first t gates of this order are settled
pub record Settled (net : NetList) (variables : List ℕ) (output : Word) (order : List ℕ) (t : ℕ) (p : Point) (e : ℕ) : Type 0 where
  pub bits : List Bool
  pub settled : IsSettled net variables order t p bits
  pub element : HasElement bits output e

-- in the order of elimination this is the cut
pub to_cut : (net : NetList) (variables : List ℕ) (output : Word) (order : List ℕ) (k : ℕ) (mul : ℕ → ℕ → ℕ) (t : ℕ) (ts : Terms) → IsElimination net order
    → IsOfStage k mul (Settled net variables output order t) ts → IsOfStage k mul (IsCut net variables output t) ts
to_cut net variables output order k mul t ts is stage = record {
  reduced = stage.reduced;
  values = λ p is_point. let got = stage.values p is_point in record { order = order; elimination = is; bits = got.bits; settled = got.settled; element = got.element };
}

module _ (net : NetList) (sound : IsSound net) (variables : List ℕ) (stands : (n : ℕ) → n < nets net → Has variables n) where
  abbrev moved : Point → GateValue → Point
  moved p g = with_gate variables g p

  module _ (levels : Levels) (are : AreLevels net levels) (order : List ℕ) (is : IsOrder net levels (reverse order)) (t position : ℕ) (g : GateValue) (at : slice_get order t ≡ Some position) (gate : slice_get net.gates position ≡ Some g) where
    module _ (output : Word) (k : ℕ) (mul : ℕ → ℕ → ℕ) where
      -- so terms with the values of a polynomial of the cut before, where the gate's value is put in, are one of the cut after
      pub next_cut : (old new : Terms) → IsOfStage k mul (Settled net variables output order t) old → IsReduced k new
          → HasGatePutIn k mul variables g old new → IsOfStage k mul (Settled net variables output order (suc t)) new
      next_cut old new of_old reduced same = record {
        reduced = reduced;
        values = λ p is_point.
            let before = of_old.values (moved p g) (record { words = is_point.words; elements = is_point.elements }) in
            let P : ℕ → Type 0 = λ e. HasElement before.bits output e in
            record { bits = before.bits; settled = step net sound variables stands levels are order is t position g at gate p before.bits before.settled; element = subst P (sym (same p is_point)) before.element };
      }
