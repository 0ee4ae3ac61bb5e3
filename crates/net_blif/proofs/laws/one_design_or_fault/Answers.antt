use Rattle.net_blif.proofs.OutcomeLemmas.{determined_design}
use Rattle.net_blif.proofs.laws.one_design_or_fault.Goals as goal

pub returns : goal.returns
returns c = determined_design
