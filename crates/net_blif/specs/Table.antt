-- Numbers of names. Source: this project's own.
use Rattle.std.specs.Prelude.{ℕ, List, Option, None, Some, if◌then◌else◌}
use Rattle.std.specs.Str.{bytes_eq}
use Rattle.indexmap.specs.IndexMap.{get_by_text}
use Rattle.net_blif.specs.declared.table.Table.{Table}

-- the number of each name
abbrev pub Numbers : Type 0
Numbers = List ℕ → Option ℕ

-- what a table says
abbrev pub numbers_in : Table → Numbers
numbers_in table name = get_by_text table.numbers name

-- no name has a number
abbrev pub no_numbers : Numbers
no_numbers name = None

-- a name has this number, and the others have theirs
abbrev pub with_number : Numbers → List ℕ → ℕ → Numbers
with_number numbers name number other = if bytes_eq name other then Some number else numbers other
