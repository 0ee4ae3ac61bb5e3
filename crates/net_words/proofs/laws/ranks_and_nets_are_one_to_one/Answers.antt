use Rattle.net_words.proofs.RankLemmas.{one_to_one}
use Rattle.net_words.proofs.laws.ranks_and_nets_are_one_to_one.Goals as goal

pub returns : goal.returns
returns c = λ net binding p q n m sound bound first second. one_to_one net binding p q n m sound.inside bound first second
