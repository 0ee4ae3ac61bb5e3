use Rattle.make_trial.proofs.DifferLemmas.{product_gates}
use Rattle.make_trial.proofs.turned_laws.first_gates_are_products.Goals as goal

pub returns : goal.returns
returns c = product_gates
