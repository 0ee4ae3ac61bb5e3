use Rattle.std.proofs.Common.{◌≡◌, filter, map, take}
use Rattle.net_blif.specs.Top.{connections_in, is_instance}
use Rattle.compose_wiring.proofs.instances.all_instances.Given as goal

abbrev pub invariant-loop-place : goal.invariant-loop-place
invariant-loop-place l = l.list.items ≡ map connections_in (filter is_instance (take l.place l.items))
