use Rattle.spec_compare.proofs.ComparedLemmas.{one_verdict}
use Rattle.spec_compare.proofs.laws.one_verdict.Goals as goal

pub returns : goal.returns
returns c = one_verdict
