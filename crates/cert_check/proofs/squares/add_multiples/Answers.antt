use Rattle.std.proofs.Common.{refl, arith}
use Rattle.cert_check.proofs.PlaceLemmas.{sums_more}
use Rattle.cert_check.proofs.squares.add_multiples.Goals as goal

pub loop-j-preserved : goal.loop-j-preserved
loop-j-preserved g c =
    sums_more (g.F.Ring.product c.args.field.now) c.args.c c.args.to.now c.args.from.now c.loop-j.to _ c.loop-j.j c.product_by.result (omega (arith, c.loop-j-test.true)) c.product_by.ensures.product refl c.loop-j.invariant
