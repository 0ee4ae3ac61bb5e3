use Rattle.poly_mixed.proofs.OneOutcomeLemmas.{one_outcome}
use Rattle.poly_mixed.proofs.laws.one_poly_or_fault.Goals as goal

pub returns : goal.returns
returns c = one_outcome
