-- What is read of a text that was written. Source: this project's own.
use Rattle.std.specs.Prelude.{List, Ok}
use Rattle.net_core.specs.NetList.{NetList}
use Rattle.net_blif.specs.Design.{ModelValue}
use Rattle.net_blif.specs.Models.{BlifDesign}
use Rattle.net_flat.specs.Flat.{Flattens}
use Rattle.net_write.specs.Written.{written}

-- the text of the net list gives the design
abbrev pub IsReadAs : NetList → List ModelValue → Type 0
IsReadAs net design = BlifDesign (written net) (Ok design)

-- the text of the one gives a design whose first model gives the other
abbrev pub IsReadBackAs : NetList → NetList → Type 0
IsReadBackAs net other = (design : List ModelValue) × IsReadAs net design × Flattens design 0 (Ok other)
