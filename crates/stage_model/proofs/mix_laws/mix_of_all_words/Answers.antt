use Rattle.stage_model.proofs.MixLemmas.{mix_all}
use Rattle.stage_model.proofs.mix_laws.mix_of_all_words.Goals as goal

pub returns : goal.returns
returns c = λ circuit p e well at. mix_all circuit well p e at
