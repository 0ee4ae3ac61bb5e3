use Rattle.std.proofs.Common.{◌∙◌, ap}
use Rattle.net_simplify.specs.private.Lists.{FormLists, form_at}
use Rattle.net_simplify.proofs.LookLemmas.{form_found, form_lost}
use Rattle.net_simplify.proofs.known.Known.body.Goals as goal

pub returns-in-Some : goal.returns-in-Some
returns-in-Some c = form_found c.deref.result.now c.self.inside.bodies.items c.args.net c.get.result c.in-Some.form c.deref.ensures.value c.get.ensures.lookup c.in-Some.is ∙ ap (λ (k : FormLists). form_at k.bodies c.args.net) c.self.view_is

pub returns-in-None : goal.returns-in-None
returns-in-None c = c.self.invariant.0 ∙ form_lost c.deref.result.now c.self.inside.bodies.items c.args.net c.get.result c.deref.ensures.value c.get.ensures.lookup c.in-None.is ∙ ap (λ (k : FormLists). form_at k.bodies c.args.net) c.self.view_is
