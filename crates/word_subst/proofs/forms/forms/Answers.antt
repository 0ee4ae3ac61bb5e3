use Rattle.gf_basis.specs.BasisParts.{elements_of}
use Rattle.word_subst.proofs.FormListLemmas.{one_more}
use Rattle.word_subst.proofs.forms.forms.Goals as goal

pub loop-place-preserved : goal.loop-place-preserved
loop-place-preserved g c =
    one_more (g.F.Ring.degree c.args.field.now) (g.F.Ring.product c.args.field.now) (elements_of c.args.basis.now) c.loop-place.place c.loop-place.list.items c.push.new.self.items c.in_ok-form.field-0
    c.in_ok-push.ensures.items c.loop-place.invariant c.in_ok-form.ensures
