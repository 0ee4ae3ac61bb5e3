use Rattle.std.proofs.Common.{◌≡◌, ◌+◌, ◌≤◌, drop, length}
use Rattle.std.specs.Prelude.{filter}
use Rattle.net_blif.specs.Top.{is_instance}
use Rattle.net_blif.proofs.top.count.Given as goal

-- the instances so far are counted
abbrev pub invariant-loop-place : goal.invariant-loop-place
invariant-loop-place l =
    record {
      few : l.count ≤ l.place;
      same : length (filter is_instance l.items) ≡ l.count + length (filter is_instance (drop l.place l.items));
    }
