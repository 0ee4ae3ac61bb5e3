use Rattle.std.proofs.Common.{arith}
use Rattle.std.proofs.lemmas.Nat.{one_shl, pow_below}
use Rattle.gf_basis.proofs.duals.unit_squares.Goals as goal

pub square-requires : goal.square-requires
square-requires g c =
    let law = g.met.F.Ring.laws c.args.field.now in
    rw (one_shl c.loop-i.i 64 (omega (arith, law.small, c.k-i-end.ensures))) (pow_below c.loop-i.i (g.F.Ring.degree c.args.field.now) (omega (arith, c.k-i-end.ensures)))
