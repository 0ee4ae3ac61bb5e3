use Rattle.std.proofs.Common.{[], ◌∷◌}
use Rattle.net_blif.specs.Top.{connections_in}
use Rattle.net_flat.specs.Paths.{At}
use Rattle.net_flat.proofs.PartLemmas.{connected_net}
use Rattle.net_flat.proofs.part_laws.connected_formals_are_their_actuals.Goals as goal

pub returns : goal.returns
returns c = λ item i formal actual found. connected_net i (At (i ∷ []) formal) formal actual (connections_in item) found
