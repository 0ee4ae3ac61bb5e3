use Rattle.std.proofs.Common.{ap}
use Rattle.net_core.specs.NetList.{NetList}
use Rattle.net_flat.specs.private.WalkerState.{state_of}
use Rattle.net_flat.proofs.StateLemmas.{inside_as}
use Rattle.net_flat.proofs.walker.Walker.place_output.Goals as goal

pub returns-clause-inside : goal.returns-clause-inside
returns-clause-inside c = inside_as (state_of c.mention.new.self) c.output.new.self (ap (λ (n : NetList). n.labels) c.in_ok-output.ensures.made) c.in_ok-number.ensures.inside
