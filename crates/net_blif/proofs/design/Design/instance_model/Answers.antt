use Rattle.std.proofs.Common.{rules, ◌≡◌, ◌∙◌, ap, sym, List, None, Some}
use Rattle.std.specs.Prelude.{filter, slice_get}
use Rattle.net_blif.specs.Design.{model_named}
use Rattle.net_blif.specs.Top.{is_instance, model_in}
use Rattle.net_blif.specs.declared.item.Item.{Item}
use Rattle.net_blif.proofs.TopLemmas.{some_named}
use Rattle.net_blif.proofs.design.Design.instance_model.Goals as goal

pub unreachable-requires : goal.unreachable-requires
unreachable-requires c =
    let at = ap (λ (xs : List Item). slice_get (filter is_instance xs) c.args.instance) (sym c.top_items.ensures.items) ∙ c.instance_at-item.ensures.item in
    let named = some_named c.args.self.now c.args.instance c.instance_at-item.result c.top_items.ensures.right at in
    let none : model_named c.args.self.now (model_in c.instance_at-item.result) ≡ None = search rules in
    let never : None ≡ Some named.0 = sym none ∙ named.1 in
    absurd (cc)
