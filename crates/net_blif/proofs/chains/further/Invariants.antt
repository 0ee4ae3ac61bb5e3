use Rattle.net_blif.specs.private.Leading.{leads_to, AreMarks}
use Rattle.net_blif.proofs.chains.further.Given as goal

-- the marks of the points so far
abbrev pub invariant-loop-point : goal.invariant-loop-point
invariant-loop-point l = AreMarks (leads_to l.graph l.on) l.point l.more.items
