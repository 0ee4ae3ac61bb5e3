use Rattle.stage_model.proofs.MixLemmas.{mix_none}
use Rattle.stage_model.proofs.mix_laws.mix_of_no_words.Goals as goal

pub returns : goal.returns
returns c = λ circuit p e well at. mix_none circuit well.well_formed well.latches p e at
