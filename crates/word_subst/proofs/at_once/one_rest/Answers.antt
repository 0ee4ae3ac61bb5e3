use Rattle.std.proofs.Common.{length}
use Rattle.lists.specs.laws.TestLaws.{some_if_not_zero}
use Rattle.word_subst.proofs.at_once.one_rest.Goals as goal

pub returns-clause-some : goal.returns-clause-some
returns-clause-some c = some_if_not_zero (length c.args.terms.now) c.if-is_empty.ensures
