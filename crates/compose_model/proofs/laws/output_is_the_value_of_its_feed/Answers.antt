use Rattle.compose_model.proofs.OutputLemmas.{output_value}
use Rattle.compose_model.proofs.laws.output_is_the_value_of_its_feed.Goals as goal

pub returns : goal.returns
returns c = λ top flat feed xs e fed is out. output_value top.k top.product fed.over.ring fed.over.no_zero_divisors top.hierarchy fed.over.given top.rows fed.feeds flat feed xs e is.circuit is.output out
