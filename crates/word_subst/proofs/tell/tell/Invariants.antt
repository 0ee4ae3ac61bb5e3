use Rattle.gf_basis.specs.BasisParts.{elements_of}
use Rattle.word_subst.specs.ReadSteps.{TellsFirst}
use Rattle.word_subst.proofs.tell.tell.Given as goal

abbrev pub invariant-loop-j : goal.invariant-loop-j
invariant-loop-j g l = TellsFirst (g.F.Ring.degree l.field) (g.F.Ring.product l.field) (elements_of l.basis) l.word l.term l.j (g.T.Steps.steps l.fn.steps) (g.T.Steps.steps l.steps)
