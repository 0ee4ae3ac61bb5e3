use Rattle.gf_basis.specs.BasisParts.{elements_of}
use Rattle.stage_model.specs.PlainWord.{IsSumOf}
use Rattle.plain_runs.proofs.word_poly.sum_poly.Given as goal

abbrev pub invariant-loop-term : goal.invariant-loop-term
invariant-loop-term g l = IsSumOf (g.F.Ring.degree l.field) (g.F.Ring.product l.field) (elements_of l.basis) l.word l.terms l.term-index l.sum.terms
