use Rattle.std.proofs.Common.{arith}
use Rattle.mult_composite.proofs.RoomLemmas.{high_few}
use Rattle.mult_composite.proofs.places.high_count.Goals as goal

pub overflow_mul-result : goal.overflow_mul-result
overflow_mul-result c = omega (arith, high_few c.args.n c.args.m c.requires.small)

pub returns-clause-few : goal.returns-clause-few
returns-clause-few c = high_few c.args.n c.args.m c.requires.small
