use Rattle.std.proofs.Common.{arith}
use Rattle.std.specs.Prelude.{slice_index}
use Rattle.cert_check.specs.private.Held.{dual_of}
use Rattle.cert_check.proofs.SquareLemmas.{square_more}
use Rattle.cert_check.proofs.squares.add_squares.Goals as goal

pub loop-j-preserved : goal.loop-j-preserved
loop-j-preserved g c =
    square_more (g.met.F.Ring.laws c.args.field.now) (g.met.F.Field.no_zero_divisors c.args.field.now) (dual_of c.args.circuit.now c.args.bases.now) c.args.row.now c.loop-j.j (slice_index c.args.list.now c.loop-j.j) c.args.poly.now.terms c.loop-j.poly.terms c.add_square.new.poly.terms
    (c.requires.squares c.loop-j.j (omega arith)) c.loop-j.invariant c.in_ok-add_square.ensures
