use Rattle.std.proofs.Common.{◌≡◌, drop}
use Rattle.net_blif.specs.Table.{numbers_in}
use Rattle.compose_wiring.specs.private.Names.{place_from}
use Rattle.compose_wiring.proofs.connections.places.Given as goal

-- the connections that are left have their places
abbrev pub invariant-loop-place : goal.invariant-loop-place
invariant-loop-place l = numbers_in l.table ≡ place_from l.place (drop l.place l.connections)
