use Rattle.std.proofs.Common.{sym, ap, ◌∙◌, is_some}
use Rattle.plain_runs.proofs.CyclesLemmas.{without_cycles}
use Rattle.plain_runs.proofs.plain.job_output.Goals as goal

pub returns-in-None-clause-complete : goal.returns-in-None-clause-complete
returns-in-None-clause-complete g c = λ job.
    let some = c.in_ok-bits.ensures.complete (without_cycles (g.F.Ring.degree c.args.field.now) (g.F.Ring.product c.args.field.now) c.args.net.now c.args.words.now c.args.output.now c.args.feeds.now c.args.cycles job) in
    sym (ap is_some c.in-None.is) ∙ some
