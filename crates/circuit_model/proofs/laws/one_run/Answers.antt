use Rattle.circuit_model.proofs.OneRunLemmas.{one_run}
use Rattle.circuit_model.proofs.SomeRunLemmas.{some_run}
use Rattle.circuit_model.proofs.laws.one_run.Goals as goal

pub returns-clause-some : goal.returns-clause-some
returns-clause-some c = λ circuit xs well input. some_run circuit xs well input

pub returns-clause-only : goal.returns-clause-only
returns-clause-only c = one_run
