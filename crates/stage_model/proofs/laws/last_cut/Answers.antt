use Rattle.stage_model.proofs.LastCutLemmas.{last_cut}
use Rattle.stage_model.proofs.laws.last_cut.Goals as goal

pub returns : goal.returns
returns c = λ circuit xs p e well is. last_cut circuit well.well_formed well.latches p xs e is.input is.at
