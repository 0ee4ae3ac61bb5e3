use Rattle.make_nets.proofs.ValueLemmas.{chain_value}
use Rattle.make_nets.proofs.plan_laws.chains_add_bits.Goals as goal

pub returns : goal.returns
returns c = λ bits target list plan agrees. chain_value bits target list plan agrees
