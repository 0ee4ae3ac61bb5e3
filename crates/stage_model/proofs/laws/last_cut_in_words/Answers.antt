use Rattle.stage_model.proofs.BlindLemmas.{in_words}
use Rattle.stage_model.proofs.laws.last_cut_in_words.Goals as goal

pub returns : goal.returns
returns c = λ circuit ts well is rank high. in_words circuit well.well_formed well.latches ts rank is high
