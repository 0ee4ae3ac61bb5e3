use Rattle.make_nets.proofs.MostLemmas.{prefix_fits, prefix_needed}
use Rattle.make_nets.proofs.made_laws.prefixes_are_new.Goals as goal

pub returns-clause-fresh : goal.returns-clause-fresh
returns-clause-fresh c = prefix_fits

pub returns-clause-needed : goal.returns-clause-needed
returns-clause-needed c = prefix_needed
