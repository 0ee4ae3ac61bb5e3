use Rattle.std.proofs.Common.{arith}
use Rattle.lists.specs.laws.NumberLaws.{square_few}
use Rattle.mult_composite.proofs.places.square.Goals as goal

pub overflow_mul-result : goal.overflow_mul-result
overflow_mul-result c = omega (arith, square_few c.args.n c.requires)

pub returns-clause-most : goal.returns-clause-most
returns-clause-most c = square_few c.args.n c.requires
