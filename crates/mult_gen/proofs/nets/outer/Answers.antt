use Rattle.std.proofs.Common.{arith}
use Rattle.mult_gen.proofs.PlanLemmas.{list_few}
use Rattle.mult_gen.proofs.nets.outer.Goals as goal

pub count_of-requires : goal.count_of-requires
count_of-requires c = omega (arith, list_few c.args._k c.args._count c.args.signature.now.words c.words.result.now c.words.ensures c.requires.small c.requires.few c.requires.words c.requires.wide)

pub returns-clause-few : goal.returns-clause-few
returns-clause-few c = omega (arith, list_few c.args._k c.args._count c.args.signature.now.words c.words.result.now c.words.ensures c.requires.small c.requires.few c.requires.words c.requires.wide, c.count_of.ensures)
