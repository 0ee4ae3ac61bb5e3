use Rattle.net_flat.proofs.PartLemmas.{instance_part}
use Rattle.net_flat.proofs.part_laws.instances_are_consistent.Goals as goal

pub returns : goal.returns
returns c = λ one bits consistent. instance_part one.design one.place one.model one.item one.whole one.alone one.is_whole.0 one.is_whole.1 one.is_item one.is_model one.is_alone bits consistent
