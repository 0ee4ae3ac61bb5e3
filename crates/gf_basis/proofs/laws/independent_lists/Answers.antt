use Rattle.gf_basis.proofs.BasisLaws.{AreIndependentLists-all}
use Rattle.gf_basis.proofs.laws.independent_lists.Goals as goal

pub returns : goal.returns
returns g c = AreIndependentLists-all (g.F.Ring.degree c.args._field.now)
