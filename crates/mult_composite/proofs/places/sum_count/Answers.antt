use Rattle.std.proofs.Common.{arith}
use Rattle.mult_composite.proofs.RoomLemmas.{sums_few}
use Rattle.mult_composite.proofs.places.sum_count.Goals as goal

pub overflow_mul-result : goal.overflow_mul-result
overflow_mul-result c = omega (arith, sums_few c.args.n c.args.m c.requires.small c.requires.few)

pub returns-clause-most : goal.returns-clause-most
returns-clause-most c = sums_few c.args.n c.args.m c.requires.small c.requires.few
