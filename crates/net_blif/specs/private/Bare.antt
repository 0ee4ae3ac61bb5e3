-- Models that have instances, by what their lines place. Source: this project's own.
use Rattle.std.specs.Prelude.{Bool, true, false}
use Rattle.std.specs.List.{list_any}
use Rattle.net_blif.specs.Design.{ModelValue}
use Rattle.net_blif.specs.Top.{is_instance}
use Rattle.net_blif.specs.declared.item_list.Place.{Place}
use Rattle.net_blif.specs.declared.item_list.Place.TheVariants as places

-- the place is that of an instance
abbrev pub is_instance_place : Place → Bool
is_instance_place (places.Instance line first end) = true
is_instance_place place = false

-- a line of the model places an instance
abbrev pub has_instances : ModelValue → Bool
has_instances model = list_any is_instance model.items
