use Rattle.std.proofs.Common.{◌≡◌, drop}
use Rattle.net_blif.specs.Instances.{first_found}
use Rattle.net_blif.specs.Top.{line_in}
use Rattle.net_blif.proofs.top.first_line_in.Given as goal

-- no item so far is a gate or latch
abbrev pub invariant-loop-place : goal.invariant-loop-place
invariant-loop-place l = first_found line_in l.items ≡ first_found line_in (drop l.place l.items)
