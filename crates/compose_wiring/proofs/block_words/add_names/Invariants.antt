use Rattle.std.proofs.Common.{◌≡◌, ◌||◌, take}
use Rattle.std.specs.Prelude.{is_some}
use Rattle.net_blif.specs.Instances.{is_among}
use Rattle.net_blif.specs.Statement.{Token}
use Rattle.net_blif.specs.Table.{numbers_in}
use Rattle.compose_wiring.proofs.block_words.add_names.Given as goal

abbrev pub invariant-loop-place : goal.invariant-loop-place
invariant-loop-place l = (name : Token) → is_some (numbers_in l.table name) ≡ (is_among (take l.place l.names) name || is_some (numbers_in l.fn.table name))
