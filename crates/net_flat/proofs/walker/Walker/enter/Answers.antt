use Rattle.std.proofs.Common.{◌∙◌, ap, sym, subst, refl}
use Rattle.net_blif.specs.Design.{model_named}
use Rattle.net_flat.specs.declared.scope.Scope.{Scope}
use Rattle.net_flat.specs.private.LocalScope.{local_in}
use Rattle.net_flat.specs.private.LocalWalk.{state_with, AreInside, Local}
use Rattle.net_flat.specs.private.WalkerState.{state_of}
use Rattle.net_flat.proofs.EnterLemmas.{entered_inside, has_entered}
use Rattle.net_flat.proofs.walker.Walker.enter.Goals as goal

pub returns-clause-inside : goal.returns-clause-inside
returns-clause-inside c =
    let P : Local → Type 0 = λ l. AreInside (state_with c.place_instance.new.self.maker c.place_instance.new.self.instances l) in
    subst P (sym (ap (λ (s : Scope). local_in s) c.replace-outer.ensures.after ∙ c.in_ok-inner.ensures)) (entered_inside (state_of c.place_instance.new.self) c.args.connections.now c.in_ok-place_instance.ensures.inside c.in_ok-place_instance.ensures.found)

pub returns-clause-some : goal.returns-clause-some
returns-clause-some c = (
  sym (c.in-Some.ensures ∙ ap (model_named c.args.design.now) c.text_of.ensures),
  has_entered (state_of c.args.self.now) (state_of c.place_instance.new.self) c.args.number c.args.connections.now c.place_instance.new.self.scope c.replace-outer.result c.replace-outer.new.dest c.in_ok-inner.inner refl c.in_ok-place_instance.ensures.made c.in_ok-place_instance.ensures.inside c.replace-outer.ensures.value c.replace-outer.ensures.after c.in_ok-inner.ensures,
)
