use Rattle.std.proofs.Common.{◌∙◌}
use Rattle.unroll.proofs.PlanLemmas.{made_cycle, made_nets}
use Rattle.unroll.proofs.plan.Plan.circuit.Goals as goal

pub rebind-requires : goal.rebind-requires
rebind-requires c = made_nets c.args.self.now.net c.args.self.now.binding c.args.self.now.cycles c.in_ok-net.net c.deref.result.now c.args.self.now.sound c.requires.binding c.in_ok-net.ensures (c.deref.ensures.value ∙ c.in_ok-list.ensures)

pub new-requires : goal.new-requires
new-requires c = λ flat. made_cycle c.args.self.now.net c.args.self.now.binding c.args.self.now.cycles c.in_ok-net.net c.deref.result.now c.in_ok-binding.binding c.args.self.now.sound c.requires.binding c.in_ok-net.ensures (c.deref.ensures.value ∙ c.in_ok-list.ensures) c.in_ok-binding.ensures.rebound c.in_ok-binding.ensures.one_cycle
