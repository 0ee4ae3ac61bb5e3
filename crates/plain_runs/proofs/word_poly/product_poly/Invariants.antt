use Rattle.gf_basis.specs.BasisParts.{elements_of}
use Rattle.stage_model.specs.PlainWord.{IsProductOf}
use Rattle.plain_runs.proofs.word_poly.product_poly.Given as goal

abbrev pub invariant-loop-rank : goal.invariant-loop-rank
invariant-loop-rank g l = IsProductOf (g.F.Ring.degree l.field) (g.F.Ring.product l.field) (elements_of l.basis) l.word l.term l.rank-index l.product.terms
