use Rattle.job_input.proofs.PolyBasisLemmas.{poly_over}
use Rattle.job_input.proofs.setting.basis_of.Goals as goal

pub returns-in-Poly-clause-over : goal.returns-in-Poly-clause-over
returns-in-Poly-clause-over g c =
    let poly = c.args.poly.now in
    poly_over (g.F.Ring.degree poly.field.now) (g.F.Ring.product poly.field.now) poly.basis poly.elements poly.dual
