use Rattle.net_words.proofs.FlatLemmas.{flat_bound}
use Rattle.net_words.proofs.laws.flat_bindings_are_of_one_cycle.Goals as goal

pub returns : goal.returns
returns c = flat_bound
