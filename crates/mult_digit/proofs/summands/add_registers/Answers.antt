use Rattle.std.proofs.Common.{◌+◌, ap}
use Rattle.std.specs.Prelude.{◌==◌}
use Rattle.std.specs.Int.{bit_at}
use Rattle.gf_field.specs.Power.{power}
use Rattle.make_nets.specs.Plan.{where_so}
use Rattle.make_laws.specs.Held.{net_at}
use Rattle.mult_digit.proofs.ShapeLemmas.{listed_more}
use Rattle.mult_digit.proofs.summands.add_registers.Goals as goal

pub loop-i-preserved : goal.loop-i-preserved
loop-i-preserved g c =
    listed_more (λ i. where_so (bit_at (power (g.R.Ring.product c.args.ring.now) c.args.x (i + c.args.width)) c.args.l == 1) (net_at c.args.z.now i)) c.loop-i.i c.args.list.now.items c.loop-i.list.items c.push_where.new.list.items
    (where_so c.has_bit-so.result (net_at c.args.z.now c.loop-i.i)) c.loop-i.invariant c.in_ok-push_where.ensures.list (ap (λ so. where_so so (net_at c.args.z.now c.loop-i.i)) c.has_bit-so.ensures)
