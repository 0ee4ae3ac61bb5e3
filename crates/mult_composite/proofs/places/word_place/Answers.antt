use Rattle.std.proofs.Common.{arith}
use Rattle.mult_composite.proofs.PlaceLemmas.{place_below}
use Rattle.mult_composite.proofs.places.word_place.Goals as goal

pub overflow_mul-start : goal.overflow_mul-start
overflow_mul-start c = omega (arith, c.requires.small, place_below c.args.n c.args.m c.args.i c.args.l c.requires.coefficient c.requires.bit)

pub overflow_add-result : goal.overflow_add-result
overflow_add-result c = omega (arith, c.requires.small, place_below c.args.n c.args.m c.args.i c.args.l c.requires.coefficient c.requires.bit)

pub returns-clause-below : goal.returns-clause-below
returns-clause-below c = place_below c.args.n c.args.m c.args.i c.args.l c.requires.coefficient c.requires.bit
