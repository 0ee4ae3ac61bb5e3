use Rattle.std.proofs.Common.{◌∙◌, ap}
use Rattle.std.specs.List.{list_any}
use Rattle.net_blif.specs.Top.{is_instance}
use Rattle.net_blif.specs.private.Bare.{is_instance_place}
use Rattle.net_blif.proofs.BareLemmas.{places_same}
use Rattle.net_blif.proofs.item_list.ItemList.has_instance.Goals as goal

pub returns : goal.returns
returns c = c.any_instance.ensures ∙ (ap (list_any is_instance_place) c.deref.ensures.value ∙ (places_same c.self.inside.tokens c.self.inside.places.items ∙ ap (list_any is_instance) c.self.view_is))
