use Rattle.std.proofs.Common.{◌≡◌, drop}
use Rattle.net_blif.specs.Instances.{first_found, instance_fault}
use Rattle.net_blif.proofs.instances.check_items.Given as goal

-- nothing is wrong with the items so far
abbrev pub invariant-loop-place : goal.invariant-loop-place
invariant-loop-place l = first_found (instance_fault l.models) l.items ≡ first_found (instance_fault l.models) (drop l.place l.items)
