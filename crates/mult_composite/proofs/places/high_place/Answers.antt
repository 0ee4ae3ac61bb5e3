use Rattle.std.proofs.Common.{arith, mul_comm}
use Rattle.mult_composite.proofs.PlaceLemmas.{high_place}
use Rattle.mult_composite.proofs.places.high_place.Goals as goal

pub overflow_mul-start : goal.overflow_mul-start
overflow_mul-start c = omega (arith, c.requires.small, mul_comm c.args.n c.args.m)

pub returns-clause-below : goal.returns-clause-below
returns-clause-below c = high_place c.args.n c.args.m c.args.q c.requires.two c.requires.bit
