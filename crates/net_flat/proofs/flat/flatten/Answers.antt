use Rattle.net_flat.proofs.FlatLemmas.{refused_walk}
use Rattle.net_flat.proofs.flat.flatten.Goals as goal

pub returns-in-Ok-clause-net : goal.returns-in-Ok-clause-net
returns-in-Ok-clause-net c = c.finished.ensures.net c.args.design.now c.args.model c.in-Ok.ensures.made

pub returns-in-Ok-clause-fault : goal.returns-in-Ok-clause-fault
returns-in-Ok-clause-fault c = c.finished.ensures.fault c.args.design.now c.args.model c.in-Ok.ensures.made

pub returns-in-Err-clause-fault : goal.returns-in-Err-clause-fault
returns-in-Err-clause-fault c = refused_walk c.args.design.now c.args.model c.in-Err.fault c.in-Err.ensures.fault
