use Rattle.stage_model.proofs.PlaceLemmas.{place_rank}
use Rattle.stage_model.proofs.word_laws.rank_of_place.Goals as goal

pub returns : goal.returns
returns c = λ circuit w i n well is. place_rank circuit well w i n is.word is.at_word is.at_place
