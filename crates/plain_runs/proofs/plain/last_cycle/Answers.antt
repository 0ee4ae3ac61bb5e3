use Rattle.std.proofs.Common.{sym, subst, Bool, List}
use Rattle.plain_runs.specs.JobOfParts.{job_of_parts}
use Rattle.plain_runs.specs.private.Cycle.{IsReached}
use Rattle.plain_runs.proofs.plain.last_cycle.Goals as goal

pub next_cycle-requires-clause-reached : goal.next_cycle-requires-clause-reached
next_cycle-requires-clause-reached g c =
    let P : List Bool → Type 0 = IsReached (job_of_parts (g.F.Ring.degree c.args.field.now) (g.F.Ring.product c.args.field.now) c.args.net.now c.args.words.now c.args.output.now c.args.feeds.now) c.args.xs.now c.loop-t.t in
    subst P (sym c.deref.ensures.value) c.loop-t.invariant
