use Rattle.std.proofs.Common.{◌+◌, ◌*◌, ◌≡◌, ap, arith}
use Rattle.unroll.proofs.CodeLemmas.{bits_step}
use Rattle.unroll.specs.Places.{cycle_nets}
use Rattle.net_core.specs.NetList.{NetList, nets}
use Rattle.unroll.proofs.plan.Plan.add_bits.Goals as goal

pub input-requires : goal.input-requires
input-requires c = omega (arith, ap (λ (m : NetList). nets m) c.loop-n.invariant, c.requires.count, c.requires.end)

pub loop-n-preserved : goal.loop-n-preserved
loop-n-preserved c =
    let same : (c.args.self.now.cycles + 1) * c.nets.result ≡ cycle_nets (nets c.args.self.now.net) c.args.self.now.cycles = ap (λ v. (c.args.self.now.cycles + 1) * v) c.nets.ensures.count in
    bits_step c.args.maker.now c.loop-n.maker c.input.new.self (cycle_nets (nets c.args.self.now.net) c.args.self.now.cycles) c.loop-n.n (omega (arith, same, c.loop-n.auto.n)) c.loop-n.invariant c.in_ok-input.ensures.made
