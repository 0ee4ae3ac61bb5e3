use Rattle.gf_tower.proofs.FieldFaultLaws.{one_field_fault as the_law}
use Rattle.gf_tower.proofs.laws.one_field_fault.Goals as goal

pub returns : goal.returns
returns c = the_law
