use Rattle.std.proofs.Common.{arith}
use Rattle.lists.specs.laws.NumberLaws.{place_below, square_few}
use Rattle.mult_composite.proofs.PlaceLemmas.{pair_place}
use Rattle.mult_composite.proofs.RoomLemmas.{all_few}
use Rattle.mult_composite.proofs.places.pair_place.Goals as goal

pub overflow_mul-row : goal.overflow_mul-row
overflow_mul-row c = omega (arith, square_few c.args.m c.requires.few, place_below c.args.m c.args.i c.args.j c.requires.first c.requires.second)

pub overflow_add-pair : goal.overflow_add-pair
overflow_add-pair c = omega (arith, square_few c.args.m c.requires.few, place_below c.args.m c.args.i c.args.j c.requires.first c.requires.second)

pub overflow_mul-start : goal.overflow_mul-start
overflow_mul-start c = omega (arith, all_few c.args.n c.args.m c.requires.small c.requires.few, pair_place c.args.n c.args.m c.args.i c.args.j c.args.l c.requires.first c.requires.second c.requires.bit)

pub overflow_add-result : goal.overflow_add-result
overflow_add-result c = omega (arith, all_few c.args.n c.args.m c.requires.small c.requires.few, pair_place c.args.n c.args.m c.args.i c.args.j c.args.l c.requires.first c.requires.second c.requires.bit)

pub returns-clause-below : goal.returns-clause-below
returns-clause-below c = pair_place c.args.n c.args.m c.args.i c.args.j c.args.l c.requires.first c.requires.second c.requires.bit
