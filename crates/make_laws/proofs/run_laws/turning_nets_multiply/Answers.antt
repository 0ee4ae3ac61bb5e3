use Rattle.make_laws.proofs.NormalRunLemmas.{normal_nets_multiply}
use Rattle.make_laws.proofs.run_laws.turning_nets_multiply.Goals as goal

pub returns : goal.returns
returns c circuit gamma coordinates nets well inside basis are_coordinates are = normal_nets_multiply circuit gamma coordinates nets well are inside basis are_coordinates
