use Rattle.cert_check.proofs.DeterminedLemmas.{one_verdict}
use Rattle.cert_check.proofs.laws.one_verdict_or_fault.Goals as goal

pub returns : goal.returns
returns g c = one_verdict (g.F.Ring.degree c.args._field.now) (g.F.Ring.product c.args._field.now) (g.met.F.Ring.laws c.args._field.now) (g.met.F.Field.no_zero_divisors c.args._field.now)
