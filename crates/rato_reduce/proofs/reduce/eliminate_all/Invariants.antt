use Rattle.std.proofs.Common.{◌+◌}
use Rattle.gf_basis.specs.BasisParts.{elements_of}
use Rattle.net_core.specs.NetList.{nets}
use Rattle.net_words.specs.Variables.{variables}
use Rattle.circuit_model.specs.OfBinding.{output_word}
use Rattle.stage_model.specs.Cut.{BoundCut}
use Rattle.stage_model.specs.Stage.{IsOfStage}
use Rattle.stage_model.proofs.NoneOver.{IsNoneOver}
use Rattle.rato_reduce.proofs.EliminationLemmas.{Settled}
use Rattle.rato_reduce.proofs.RecordedLemmas.{IsRecordedBy}
use Rattle.rato_reduce.proofs.reduce.eliminate_all.Given as goal

abbrev pub invariant-loop-t : goal.invariant-loop-t
invariant-loop-t g l =
    record {
      is : IsOfStage (g.F.Ring.degree l.field) (g.F.Ring.product l.field) (Settled l.circuit.net (variables (nets l.circuit.net) l.circuit.binding.words) (output_word l.circuit.binding.words (elements_of l.output)) l.order l.t) l.cut.terms;
      within : IsNoneOver (g.F.Ring.degree l.field) (g.F.Ring.product l.field) (BoundCut l.circuit (elements_of l.output)) (l.t + 1) l.bound;
      recorded : IsRecordedBy (g.F.Ring.degree l.field) (g.F.Ring.product l.field) l.circuit.net (variables (nets l.circuit.net) l.circuit.binding.words) (output_word l.circuit.binding.words (elements_of l.output)) l.order l.t (g.T.Steps.steps l.fn.steps) (g.T.Steps.steps l.steps);
    }
