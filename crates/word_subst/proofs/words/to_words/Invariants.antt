use Rattle.std.proofs.Common.{◌<◌, ◌^◌, length}
use Rattle.poly_mixed.specs.Polynomial.{IsReduced}
use Rattle.stage_model.specs.Mix.{IsMix}
use Rattle.stage_model.specs.Stage.{IsOfStage}
use Rattle.circuit_model.specs.Bases.{circuit_in}
use Rattle.word_subst.specs.InWords.{AreReplacedTo, HoldsPairsTo}
use Rattle.word_subst.specs.WordStages.{IsOfNoWords}
use Rattle.word_subst.specs.private.Held.{terms_of}
use Rattle.word_subst.proofs.AllWordLemmas.{AreWithinTo, IsRecordedTo}
use Rattle.word_subst.proofs.words.to_words.Given as goal

abbrev pub invariant-loop-w : goal.invariant-loop-w
invariant-loop-w g l =
    record {
      reduced : IsReduced (g.F.Ring.degree l.field) (terms_of l.last);
      few : length (terms_of l.last) < 2 ^ 32;
      replaced : AreReplacedTo (circuit_in (g.F.Ring.degree l.field) (g.F.Ring.product l.field) l.circuit l.bases) l.fn.bits.items l.bound l.w (terms_of l.last);
      told : HoldsPairsTo (circuit_in (g.F.Ring.degree l.field) (g.F.Ring.product l.field) l.circuit l.bases) l.fn.bits.items l.bound l.w (g.T.Steps.steps l.fn.steps) (g.T.Steps.steps l.steps);
      mix : IsOfNoWords (circuit_in (g.F.Ring.degree l.field) (g.F.Ring.product l.field) l.circuit l.bases) l.fn.bits.items → IsOfStage (g.F.Ring.degree l.field) (g.F.Ring.product l.field) (IsMix (circuit_in (g.F.Ring.degree l.field) (g.F.Ring.product l.field) l.circuit l.bases) l.w) (terms_of l.last);
      within : IsOfNoWords (circuit_in (g.F.Ring.degree l.field) (g.F.Ring.product l.field) l.circuit l.bases) l.fn.bits.items → AreWithinTo (circuit_in (g.F.Ring.degree l.field) (g.F.Ring.product l.field) l.circuit l.bases) l.w l.bound;
      recorded : IsOfNoWords (circuit_in (g.F.Ring.degree l.field) (g.F.Ring.product l.field) l.circuit l.bases) l.fn.bits.items → IsRecordedTo (circuit_in (g.F.Ring.degree l.field) (g.F.Ring.product l.field) l.circuit l.bases) l.w (g.T.Steps.steps l.fn.steps) (g.T.Steps.steps l.steps);
    }
