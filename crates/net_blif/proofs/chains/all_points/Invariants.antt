use Rattle.net_blif.specs.Chains.{leads_on}
use Rattle.net_blif.specs.private.Leading.{AreMarks}
use Rattle.net_blif.proofs.chains.all_points.Given as goal

-- a mark for each point so far
abbrev pub invariant-loop : goal.invariant-loop
invariant-loop l = AreMarks (leads_on l.graph 0) l.counter l.on.items
