-- Which lines a walk goes through. Source: this project's own.
use Rattle.std.specs.Prelude.{◌≡◌, ◌⊎◌, false, List}
use Rattle.net_blif.specs.Ports.{ports_once}
use Rattle.net_blif.specs.declared.item.Item.{Item}
use Rattle.net_flat.specs.private.LocalWalk.{is_in_top, Local}

-- those of the model, or in an instance these with each port once
abbrev pub AreLinesIn : Local → List Item → List Item → Type 0
AreLinesIn local items lines = (lines ≡ items) ⊎ ((is_in_top local ≡ false) × (lines ≡ ports_once items))
