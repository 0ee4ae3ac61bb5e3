use Rattle.std.proofs.Common.{◌+◌, ap}
use Rattle.std.specs.Prelude.{◌==◌}
use Rattle.std.specs.Int.{bit_at}
use Rattle.gf_field.specs.Power.{power}
use Rattle.make_nets.specs.Plan.{where_so}
use Rattle.mult_digit.specs.private.ProductNets.{product_net}
use Rattle.mult_digit.proofs.ShapeLemmas.{listed_more}
use Rattle.mult_digit.proofs.summands.add_row.Goals as goal

pub loop-j-preserved : goal.loop-j-preserved
loop-j-preserved g c =
    listed_more (λ j. where_so (bit_at (power (g.R.Ring.product c.args.ring.now) c.args.x (c.args.e + j)) c.args.l == 1) (product_net c.args.first c.args.k c.args.e j)) c.loop-j.j c.args.list.now.items c.loop-j.list.items c.push_where.new.list.items
    (where_so c.has_bit-so.result (product_net c.args.first c.args.k c.args.e c.loop-j.j)) c.loop-j.invariant c.in_ok-push_where.ensures.list (ap (λ so. where_so so (product_net c.args.first c.args.k c.args.e c.loop-j.j)) c.has_bit-so.ensures)
