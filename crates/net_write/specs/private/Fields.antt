-- Fields of a line behind its first and some of the rows. Source: this project's own.
use Rattle.std.specs.Prelude.{ℕ, ◌==◌, true, List, ◌∷◌, filter, flat_map, map}
use Rattle.std.specs.Int.{bit_at}
use Rattle.net_core.specs.NetList.{NetList, text_of}
use Rattle.net_blif.specs.Statement.{Token}
use Rattle.net_blif.specs.declared.statement.Statement.{Statement}
use Rattle.net_blif.specs.declared.statement.Statement.TheVariants.{Row}
use Rattle.net_write.specs.Written.{pattern}

-- a field behind a space
abbrev pub field : Token → List ℕ
field name = 32 ∷ name

-- the names of these nets, each behind a space
abbrev pub fields_of : NetList → List ℕ → List ℕ
fields_of net nets = flat_map (λ n. field (text_of net n)) nets

-- the rows of those of these indexes whose bit of the table is 1
abbrev pub rows_at : ℕ → ℕ → List ℕ → List Statement
rows_at n table indexes = map (λ index. Row (pattern n index) true) (filter (λ index. bit_at table index == 1) indexes)
