use Rattle.std.proofs.Common.{refl}
use Rattle.mult_digit.specs.private.ProductNets.{added_row}
use Rattle.mult_digit.proofs.ShapeLemmas.{listed_more}
use Rattle.mult_digit.proofs.summands.add_products.Goals as goal

pub loop-e-preserved : goal.loop-e-preserved
loop-e-preserved g c =
    listed_more (added_row (g.R.Ring.product c.args.ring.now) c.args.x c.args.first c.args.k c.args.l) c.loop-e.e c.args.list.now.items c.loop-e.list.items c.add_row.new.list.items
    (added_row (g.R.Ring.product c.args.ring.now) c.args.x c.args.first c.args.k c.args.l c.loop-e.e) c.loop-e.invariant c.in_ok-add_row.ensures refl
