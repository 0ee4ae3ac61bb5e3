-- Nets in which each net has a level. Source: this project's own.
use Rattle.std.specs.Prelude.{◌≡◌, None}
use Rattle.lists.specs.Lists.{Has}
use Rattle.net_core.specs.GateValue.{GateValue}
use Rattle.net_core.specs.NetList.{NetList}
use Rattle.net_core.specs.Level.{Levels, level_at, AreLevels}

-- each gate has a level
abbrev pub AllHaveLevels : NetList → Levels → Type 0
AllHaveLevels net levels = AreLevels net levels × ((g : GateValue) → Has net.gates g → level_at levels g.out ≡ None → ⊥)
