use Rattle.std.proofs.Common.{sym, subst}
use Rattle.poly_mixed.specs.Polynomial.{Terms}
use Rattle.rato_reduce.specs.private.Buckets.{AreTaken}
use Rattle.rato_reduce.proofs.buckets.take_all.Goals as goal

pub returns : goal.returns
returns c =
    let P : Terms → Type 0 = AreTaken c.args.bucket in
    subst P (sym c.swap.ensures.x_after) (record { sums = c.in_ok-merge.ensures.sums; each = c.in_ok-merge.ensures.each })
