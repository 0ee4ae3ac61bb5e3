use Rattle.spec_compare.proofs.ComparedLemmas.{one_value}
use Rattle.spec_compare.proofs.SomeOnesLemmas.{some_value}
use Rattle.spec_compare.proofs.laws.one_value.Goals as goal

pub returns-clause-some : goal.returns-clause-some
returns-clause-some c = some_value

pub returns-clause-only : goal.returns-clause-only
returns-clause-only c = λ circuit ts xs e other well. one_value circuit ts xs e other
