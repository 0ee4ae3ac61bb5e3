use Rattle.stage_model.proofs.CutLemmas.{first_cut}
use Rattle.stage_model.proofs.laws.first_cut.Goals as goal

pub returns : goal.returns
returns c = λ circuit p e well. first_cut circuit well p e
