use Rattle.mult_digit.proofs.ShapeLemmas.{summands_from, summands_low}
use Rattle.std.proofs.Common.{length}
use Rattle.mult_digit.proofs.summands.summands.Goals as goal

pub returns-clause-few : goal.returns-clause-few
returns-clause-few g c =
    summands_low c.args.first (g.R.Ring.degree c.args.ring.now) (g.R.Ring.product c.args.ring.now) c.args.x c.args.width c.args.z.now c.args.l c.add_products.new.list.items
    (g.met.R.Ring.laws c.args.ring.now).small c.requires.width
    (summands_from c.args.first (g.R.Ring.degree c.args.ring.now) c.k.result (length c.args.z.now) (g.R.Ring.product c.args.ring.now) c.args.x c.args.width c.args.z.now c.args.l
    c.new-list.result.items c.add_registers.new.list.items c.add_products.new.list.items
    c.new-list.ensures.items c.requires.z_long c.k.ensures c.in_ok-add_registers.ensures c.in_ok-add_products.ensures)

pub returns-clause-are : goal.returns-clause-are
returns-clause-are g c =
    summands_from c.args.first (g.R.Ring.degree c.args.ring.now) c.k.result (length c.args.z.now) (g.R.Ring.product c.args.ring.now) c.args.x c.args.width c.args.z.now c.args.l
    c.new-list.result.items c.add_registers.new.list.items c.add_products.new.list.items
    c.new-list.ensures.items c.requires.z_long c.k.ensures c.in_ok-add_registers.ensures c.in_ok-add_products.ensures
