use Rattle.std.proofs.Common.{◌≡◌, List, None, Option, sym, subst}
use Rattle.gf_basis.specs.BasisParts.{elements_of}
use Rattle.poly_mixed.specs.Steps.{Step}
use Rattle.rato_reduce.specs.Recorded.{AreAllRecorded}
use Rattle.rato_reduce.proofs.reduce.reduce_in_order.Goals as goal

pub returns-in-Ok-clause-steps : goal.returns-in-Ok-clause-steps
returns-in-Ok-clause-steps g c =
    let silent : g.T.Steps.steps c.args.steps.now ≡ None = c.tells.ensures c.if-not-tells.true in
    let P : Option (List Step) → Type 0 = λ told. AreAllRecorded (g.F.Ring.degree c.args.field.now) (g.F.Ring.product c.args.field.now) c.args.circuit.now (elements_of c.args.output.now) told told in
    subst P (sym silent) c.in-Ok.ensures.steps
