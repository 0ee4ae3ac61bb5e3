use Rattle.std.proofs.Common.{◌∙◌, ◌≤◌, ap, sym, subst, length}
use Rattle.net_simplify.specs.Form.{Form}
use Rattle.net_simplify.specs.private.Lists.{FormLists, form_at}
use Rattle.net_simplify.proofs.LookLemmas.{form_found, form_lost}
use Rattle.net_simplify.proofs.known.Known.unit.Goals as goal

pub returns-in-Some : goal.returns-in-Some
returns-in-Some c =
    let P : Form → Type 0 = λ f. length f.leaves ≤ 1 in
    let here = form_found c.deref.result.now c.self.inside.units.items c.args.net c.get.result c.in-Some.form c.deref.ensures.value c.get.ensures.lookup c.in-Some.is in
    record { unit = here ∙ ap (λ (k : FormLists). form_at k.units c.args.net) c.self.view_is; few = subst P (sym here) (c.self.invariant.2 c.args.net) }

pub returns-in-None : goal.returns-in-None
returns-in-None c =
    let P : Form → Type 0 = λ f. length f.leaves ≤ 1 in
    let here = c.self.invariant.0 ∙ form_lost c.deref.result.now c.self.inside.units.items c.args.net c.get.result c.deref.ensures.value c.get.ensures.lookup c.in-None.is in
    record { unit = here ∙ ap (λ (k : FormLists). form_at k.units c.args.net) c.self.view_is; few = subst P (sym here) (c.self.invariant.2 c.args.net) }
