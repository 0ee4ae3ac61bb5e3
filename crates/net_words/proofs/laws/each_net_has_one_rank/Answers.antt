use Rattle.net_words.proofs.RankLemmas.{variables_once, variables_within, variables_long, one_rank}
use Rattle.net_words.proofs.laws.each_net_has_one_rank.Goals as goal

pub returns-clause-once : goal.returns-clause-once
returns-clause-once c = λ net binding n sound bound less. variables_once net binding n bound less

pub returns-clause-within : goal.returns-clause-within
returns-clause-within c = λ net binding n sound bound has. variables_within net binding n sound.inside bound has

pub returns-clause-long : goal.returns-clause-long
returns-clause-long c = λ net binding sound bound. variables_long net binding sound.inside bound

pub returns-clause-one : goal.returns-clause-one
returns-clause-one c = λ net binding p q n sound bound first second. one_rank net binding p q n sound.inside bound first second
