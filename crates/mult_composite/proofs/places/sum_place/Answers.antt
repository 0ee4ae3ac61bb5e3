use Rattle.std.proofs.Common.{arith}
use Rattle.lists.specs.laws.NumberLaws.{mul_few}
use Rattle.mult_composite.proofs.PlaceLemmas.{sum_place}
use Rattle.mult_composite.proofs.places.sum_place.Goals as goal

pub overflow_mul-start : goal.overflow_mul-start
overflow_mul-start c = omega (arith, mul_few c.args.c c.args.n 128 32 c.requires.few c.requires.small, sum_place c.args.n c.args.c c.args.d c.args.l c.requires.coefficient c.requires.bit)

pub overflow_add-result : goal.overflow_add-result
overflow_add-result c = omega (arith, mul_few c.args.c c.args.n 128 32 c.requires.few c.requires.small, sum_place c.args.n c.args.c c.args.d c.args.l c.requires.coefficient c.requires.bit)

pub returns-clause-below : goal.returns-clause-below
returns-clause-below c = sum_place c.args.n c.args.c c.args.d c.args.l c.requires.coefficient c.requires.bit
