use Rattle.std.proofs.Common.{ap}
use Rattle.net_core.specs.declared.latch.Start.TheVariants.{Zero}
use Rattle.make_laws.specs.Held.{net_at}
use Rattle.mult_normal.specs.NormalPlan.{moved_from}
use Rattle.mult_normal.proofs.LatchLemmas.{more_latches}
use Rattle.mult_normal.proofs.held.add_moving.Goals as goal

pub loop-i-preserved : goal.loop-i-preserved
loop-i-preserved c =
    more_latches (λ i. record { next = moved_from c.args.first c.args.nets.now i; out = net_at c.args.nets.now i; start = Zero }) c.loop-i.i c.args.latches.now.items c.loop-i.latches.items c.push.new.self.items
    (record { next = c.moved_from-before.result; out = net_at c.args.nets.now c.loop-i.i; start = Zero }) c.loop-i.invariant
    (ap (λ n. record { next = n; out = net_at c.args.nets.now c.loop-i.i; start = Zero }) c.moved_from-before.ensures)
    c.in_ok-push.ensures.items
