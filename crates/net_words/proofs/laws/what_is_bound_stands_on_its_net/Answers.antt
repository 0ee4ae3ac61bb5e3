use Rattle.net_words.proofs.BoundLemmas.{bound_to}
use Rattle.net_words.proofs.laws.what_is_bound_stands_on_its_net.Goals as goal

pub returns : goal.returns
returns c = bound_to
