use Rattle.std.proofs.Common.{arith}
use Rattle.spec_compare.proofs.StepLemmas.{doubled}
use Rattle.spec_compare.proofs.first.+number.Goals as goal

pub returns-then-contains-clause-below : goal.returns-then-contains-clause-below
returns-then-contains-clause-below t c = doubled c.number-rest.result c.args.count c.number-rest.ensures.below c.if-count-eq0.false

pub returns-else-contains-clause-below : goal.returns-else-contains-clause-below
returns-else-contains-clause-below t c = omega (arith, doubled c.number-rest.result c.args.count c.number-rest.ensures.below c.if-count-eq0.false)
