use Rattle.stage_model.proofs.NextMixLemmas.{mix_lacks}
use Rattle.stage_model.proofs.word_laws.mix_in_later_bits.Goals as goal

pub returns : goal.returns
returns c = λ circuit w rank ts well apart is. mix_lacks circuit well w rank ts apart is
