use Rattle.net_flat.proofs.FlatLemmas.{flattens, unsound}
use Rattle.net_flat.proofs.flat.finished.Goals as goal

pub returns-in-Ok-clause-net : goal.returns-in-Ok-clause-net
returns-in-Ok-clause-net c = λ d m walked. flattens d m c.args.maker c.in-Ok.net walked c.in-Ok.ensures

pub returns-in-Err-clause-fault : goal.returns-in-Err-clause-fault
returns-in-Err-clause-fault c = λ d m walked. unsound d m c.args.maker c.in-Err.fault c.fault_of.result walked c.in-Err.ensures c.fault_of.ensures
