use Rattle.std.proofs.Common.{arith}
use Rattle.gf_field.specs.laws.PowerLaws.{one_below}
use Rattle.spec_text.proofs.reader.bit_in.Goals as goal

pub returns-then-n-le1-clause-element : goal.returns-then-n-le1-clause-element
returns-then-n-le1-clause-element g c =
    let one = one_below (g.F.Ring.degree c.args.field.now) (g.F.Ring.product c.args.field.now) (g.met.F.Ring.laws c.args.field.now) in
    omega (arith, one, c.if-n-le1.true)
