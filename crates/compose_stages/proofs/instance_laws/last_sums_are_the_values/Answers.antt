use Rattle.compose_stages.proofs.LastLemmas.{last_sum}
use Rattle.compose_stages.proofs.instance_laws.last_sums_are_the_values.Goals as goal

pub returns : goal.returns
returns c = λ top i v block p fed is has. last_sum top.k top.product top.hierarchy top.rows i v block p has.0 fed.over.ring fed.over.no_zero_divisors fed.over.given fed.feeds is has.1 has.2
