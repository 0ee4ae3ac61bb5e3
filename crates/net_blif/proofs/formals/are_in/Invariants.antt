use Rattle.std.proofs.Common.{◌≡◌, drop}
use Rattle.net_blif.specs.Table.{numbers_in}
use Rattle.net_blif.specs.private.Connecting.{has_all}
use Rattle.net_blif.proofs.formals.are_in.Given as goal

-- the names so far have numbers
abbrev pub invariant-loop-place : goal.invariant-loop-place
invariant-loop-place l = has_all (numbers_in l.table) l.names ≡ has_all (numbers_in l.table) (drop l.place l.names)
