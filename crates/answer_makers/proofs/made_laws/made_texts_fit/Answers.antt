use Rattle.answer_makers.proofs.MadeTextLemmas.{text_fits}
use Rattle.answer_makers.proofs.made_laws.made_texts_fit.Goals as goal

pub returns : goal.returns
returns c = λ text setting kind net is made. text_fits text setting is kind net made.0 made.1
