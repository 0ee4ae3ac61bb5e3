use Rattle.std.proofs.Common.{◌∙◌, ap, length, take}
use Rattle.net_core.specs.NetList.{nets}
use Rattle.unroll.specs.Places.{net_at}
use Rattle.std.proofs.Common.{map}
use Rattle.unroll.proofs.PlanLemmas.{gate_fits}
use Rattle.unroll.proofs.plan.Plan.add_gate_at.Goals as goal

pub add_gate-requires-clause-inside : goal.add_gate-requires-clause-inside
add_gate-requires-clause-inside c = gate_fits c.args.self.now.net c.args.self.now.binding c.args.self.now.cycles c.args.t c.args.gate.now (nets c.args.maker.now) c.net_at.result c.table.result (take (length c.inputs-inputs.result.now) c.inputs_at-nets.result) c.requires.room.nets_are c.requires.cycle c.requires.inside (c.net_at.ensures.number ∙ ap (net_at (nets c.args.self.now.net) c.args.t) c.out.ensures) (c.inputs_at-nets.ensures.nets ∙ ap (map (net_at (nets c.args.self.now.net) c.args.t)) c.inputs-inputs.ensures.inputs) c.table.ensures.table
