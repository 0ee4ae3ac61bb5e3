use Rattle.gf_basis.specs.BasisParts.{elements_of}
use Rattle.word_subst.proofs.FormListLemmas.{AreFirst}
use Rattle.word_subst.proofs.forms.forms.Given as goal

abbrev pub invariant-loop-place : goal.invariant-loop-place
invariant-loop-place g l = AreFirst (g.F.Ring.degree l.field) (g.F.Ring.product l.field) (elements_of l.basis) l.place l.list.items
