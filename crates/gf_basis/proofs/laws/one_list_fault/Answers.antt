use Rattle.gf_basis.proofs.BasisFaultLaws.{one_list_fault as the_law}
use Rattle.gf_basis.proofs.laws.one_list_fault.Goals as goal

pub returns : goal.returns
returns g c = the_law (g.F.Ring.degree c.args._field.now)
