use Rattle.net_flat.proofs.FlatDetermined.{flattens_once}
use Rattle.net_flat.proofs.laws.one_net_or_fault.Goals as goal

pub returns : goal.returns
returns c = flattens_once
