use Rattle.std.proofs.Common.{◌≡◌, drop}
use Rattle.net_blif.specs.Instances.{first_found}
use Rattle.net_blif.specs.Top.{actual_at}
use Rattle.net_blif.proofs.top.actual_among.Given as goal

-- no connection so far has the formal
abbrev pub invariant-loop-place : goal.invariant-loop-place
invariant-loop-place l = first_found (actual_at l.formal) l.connections ≡ first_found (actual_at l.formal) (drop l.place l.connections)
