use Rattle.job_input.proofs.StopLemmas.{specification_stops}
use Rattle.job_input.proofs.specification.specification_of.Goals as goal

pub returns-in-Ok : goal.returns-in-Ok
returns-in-Ok g c = record { gives = c.in-Ok.ensures.outcome; over = c.in-Ok.ensures.over }

pub returns-in-Err : goal.returns-in-Err
returns-in-Err g c = record {
  gives = rw c.text_stop.ensures (specification_stops c.args.labels.now (g.F.Ring.degree c.args.field.now) (g.F.Ring.product c.args.field.now) c.args.text.now c.in-Err.fault c.in-Err.ensures.outcome);
  over = tt;
}
