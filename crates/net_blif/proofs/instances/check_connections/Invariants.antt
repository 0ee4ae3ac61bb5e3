use Rattle.std.proofs.Common.{◌≡◌, drop}
use Rattle.net_blif.specs.Table.{numbers_in}
use Rattle.net_blif.specs.private.Connecting.{after, connect, table_fault}
use Rattle.net_blif.proofs.instances.check_connections.Given as goal

-- what is wrong with all is what is wrong with those that are left
abbrev pub invariant-loop-place : goal.invariant-loop-place
invariant-loop-place l =
    record {
      fault : table_fault l.line (numbers_in l.formals) (numbers_in l.fn.connected) l.connections ≡ table_fault l.line (numbers_in l.formals) (numbers_in l.connected) (drop l.place l.connections);
      connected : after connect (numbers_in l.fn.connected) l.connections ≡ after connect (numbers_in l.connected) (drop l.place l.connections);
    }
