use Rattle.word_subst.proofs.FormListLemmas.{IsPartForm}
use Rattle.word_subst.proofs.forms.form.Given as goal

abbrev pub invariant-loop-j : goal.invariant-loop-j
invariant-loop-j g l = IsPartForm (g.F.Ring.degree l.field) (g.F.Ring.product l.field) l.linear l.j l.form
