use Rattle.spec_text.proofs.OneOutcomeLemmas.{one_outcome}
use Rattle.spec_text.proofs.laws.one_spec_or_fault.Goals as goal

pub returns : goal.returns
returns c = λ l k mul bytes x y one other. one_outcome l k mul bytes x y one.0 other.0 one.1 other.1
