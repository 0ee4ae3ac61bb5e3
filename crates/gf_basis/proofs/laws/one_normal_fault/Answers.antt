use Rattle.gf_basis.proofs.BasisFaultLaws.{one_normal_fault as the_law}
use Rattle.gf_basis.proofs.laws.one_normal_fault.Goals as goal

pub returns : goal.returns
returns g c = the_law (g.F.Ring.degree c.args._field.now) (g.F.Ring.product c.args._field.now)
