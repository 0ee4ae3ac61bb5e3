use Rattle.std.proofs.Common.{◌≡◌, ◌<◌, drop, length}
use Rattle.std.specs.Prelude.{filter, slice_get}
use Rattle.net_blif.specs.Top.{is_instance}
use Rattle.net_blif.proofs.top.instance_at.Given as goal

-- the instance stands among those that are left
abbrev pub invariant-loop-place : goal.invariant-loop-place
invariant-loop-place l =
    record {
      same : slice_get (filter is_instance l.items) l.number ≡ slice_get (filter is_instance (drop l.place l.items)) l.left;
      less : l.left < length (filter is_instance (drop l.place l.items));
    }
