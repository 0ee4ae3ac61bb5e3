use Rattle.plain_runs.specs.JobOfParts.{job_of_parts}
use Rattle.plain_runs.specs.private.Cycle.{IsReached}
use Rattle.plain_runs.proofs.plain.last_cycle.Given as goal

abbrev pub invariant-loop-t : goal.invariant-loop-t
invariant-loop-t g l = IsReached (job_of_parts (g.F.Ring.degree l.field) (g.F.Ring.product l.field) l.net l.words l.output l.feeds) l.xs l.t l.bits.items
