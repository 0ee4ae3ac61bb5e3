use Rattle.stage_model.proofs.BoundLemmas.{bound_cut}
use Rattle.stage_model.proofs.laws.cuts_of_bound.Goals as goal

pub returns : goal.returns
returns c = λ based t p e long. bound_cut based.k based.product based.netlist based.bases t p e long
