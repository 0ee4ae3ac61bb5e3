use Rattle.std.proofs.Common.{ap}
use Rattle.net_core.specs.declared.latch.Start.TheVariants.{Unknown}
use Rattle.make_laws.specs.Held.{net_at}
use Rattle.make_laws.specs.NormalNets.{place_before}
use Rattle.std.proofs.Common.{length}
use Rattle.mult_normal.proofs.LatchLemmas.{more_latches}
use Rattle.mult_normal.proofs.held.add_turning.Goals as goal

pub loop-i-preserved : goal.loop-i-preserved
loop-i-preserved c =
    more_latches (λ i. record { next = net_at c.args.nets.now (place_before (length c.args.nets.now) i); out = net_at c.args.nets.now i; start = Unknown }) c.loop-i.i c.args.latches.now.items c.loop-i.latches.items c.push.new.self.items
    (record { next = net_at c.args.nets.now c.place_before.result; out = net_at c.args.nets.now c.loop-i.i; start = Unknown }) c.loop-i.invariant
    (ap (λ p. record { next = net_at c.args.nets.now p; out = net_at c.args.nets.now c.loop-i.i; start = Unknown }) c.place_before.ensures.at)
    c.in_ok-push.ensures.items
