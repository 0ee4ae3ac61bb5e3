-- Designs all of whose items are sound. Source: the Berkeley Logic Interchange Format (BLIF), University of California, Berkeley.
use Rattle.std.specs.Prelude.{List}
use Rattle.lists.specs.Lists.{Has}
use Rattle.net_blif.specs.Design.{ModelValue}
use Rattle.net_blif.specs.Item.{IsSoundItem}
use Rattle.net_blif.specs.declared.item.Item.{Item}

-- each item is sound
abbrev pub AreSoundItems : List Item → Type 0
AreSoundItems list = (item : Item) → Has list item → IsSoundItem item

-- each model's items are sound: names are tokens, tables fit their inputs, and instances have connections
abbrev pub AreSoundModels : List ModelValue → Type 0
AreSoundModels models = (model : ModelValue) → Has models model → AreSoundItems model.items
