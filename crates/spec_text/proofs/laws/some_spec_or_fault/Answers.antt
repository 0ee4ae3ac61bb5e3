use Rattle.spec_text.proofs.ExistsLemmas.{some_outcome}
use Rattle.spec_text.proofs.laws.some_spec_or_fault.Goals as goal

pub returns : goal.returns
returns c = λ l k mul bytes ring. some_outcome l k mul ring bytes
