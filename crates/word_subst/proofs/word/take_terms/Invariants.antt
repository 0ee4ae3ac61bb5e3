use Rattle.std.proofs.Common.{take}
use Rattle.gf_basis.specs.BasisParts.{elements_of}
use Rattle.word_subst.specs.ReadSteps.{TellsTerms}
use Rattle.word_subst.specs.private.Reading.{IsReadTo}
use Rattle.word_subst.proofs.word.take_terms.Given as goal

abbrev pub invariant-loop-s : goal.invariant-loop-s
invariant-loop-s g l =
    record {
      read : IsReadTo (g.F.Ring.degree l.field) (g.F.Ring.product l.field) (elements_of l.basis) l.word l.terms l.bound l.s l.products l.sums;
      told : TellsTerms (g.F.Ring.degree l.field) (g.F.Ring.product l.field) (elements_of l.basis) l.word (take l.s l.terms) (g.T.Steps.steps l.fn.steps) (g.T.Steps.steps l.steps);
    }
