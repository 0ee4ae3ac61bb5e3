use Rattle.cert_check.specs.private.Held.{dual_of}
use Rattle.cert_check.proofs.HeldLemmas.{flushed_held, flushed_same, flushed_settled}
use Rattle.cert_check.proofs.running_sum.RunningSum.settle.Goals as goal

pub returns-clause-held : goal.returns-clause-held
returns-clause-held g c =
    flushed_held (g.met.F.Ring.laws c.args.field.now) (g.met.F.Field.no_zero_divisors c.args.field.now) c.args.circuit.now c.args.bases.now (dual_of c.args.circuit.now c.args.bases.now) c.flush.result c.args.self.now c.flush.new.self c.requires.held c.flush.ensures.rows c.flush.ensures.poly

pub returns-clause-same : goal.returns-clause-same
returns-clause-same g c =
    flushed_same (g.met.F.Ring.laws c.args.field.now) (g.met.F.Field.no_zero_divisors c.args.field.now) c.args.circuit.now c.args.bases.now (dual_of c.args.circuit.now c.args.bases.now) c.flush.result c.args.self.now c.flush.new.self c.flush.ensures.rows c.flush.ensures.poly

pub returns-clause-settled : goal.returns-clause-settled
returns-clause-settled g c =
    flushed_settled (g.F.Ring.degree c.args.field.now) (g.F.Ring.product c.args.field.now) (dual_of c.args.circuit.now c.args.bases.now) c.flush.result c.flush.new.self c.args.bound c.flush.ensures.rows c.flush.ensures.none
