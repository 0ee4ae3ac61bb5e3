use Rattle.std.proofs.Common.{◌∙◌, ap}
use Rattle.net_core.specs.NetList.{NetList, nets}
use Rattle.unroll.proofs.PlanLemmas.{labels_count, made_room}
use Rattle.unroll.proofs.plan.Plan.laid_out.Goals as goal

pub add_all_inputs-requires-clause-count : goal.add_all_inputs-requires-clause-count
add_all_inputs-requires-clause-count c = labels_count c.args.self.now.net c.args.self.now.binding c.args.self.now.cycles c.new-maker.result c.add_nets.new.maker (ap (λ (m : NetList). nets m) c.new-maker.ensures) c.in_ok-add_nets.ensures

pub add_outputs-requires : goal.add_outputs-requires
add_outputs-requires c = ap (λ (m : NetList). nets m) c.in_ok-add_all_inputs.ensures ∙ labels_count c.args.self.now.net c.args.self.now.binding c.args.self.now.cycles c.new-maker.result c.add_nets.new.maker (ap (λ (m : NetList). nets m) c.new-maker.ensures) c.in_ok-add_nets.ensures

pub add_cycles-requires-clause-room : goal.add_cycles-requires-clause-room
add_cycles-requires-clause-room c = made_room c.args.self.now.net c.args.self.now.binding c.args.self.now.cycles c.new-maker.result c.add_nets.new.maker c.add_all_inputs.new.maker c.add_outputs.new.maker c.new-maker.ensures c.in_ok-add_nets.ensures c.in_ok-add_all_inputs.ensures c.in_ok-add_outputs.ensures c.requires.room
