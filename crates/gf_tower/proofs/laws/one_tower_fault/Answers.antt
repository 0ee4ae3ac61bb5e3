use Rattle.gf_tower.proofs.TowerFaultLaws.{one_tower_fault as the_law}
use Rattle.gf_tower.proofs.laws.one_tower_fault.Goals as goal

pub returns : goal.returns
returns c = the_law
