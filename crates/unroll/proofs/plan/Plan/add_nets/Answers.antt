use Rattle.std.proofs.Common.{arith}
use Rattle.unroll.proofs.CountLemmas.{labels_long}
use Rattle.unroll.proofs.PlanLemmas.{fed_room}
use Rattle.unroll.proofs.plan.Plan.add_nets.Goals as goal

pub add_labels-requires : goal.add_labels-requires
add_labels-requires c = omega (arith, c.requires, c.args.self.now.few, labels_long c.args.self.now.net.labels c.args.self.now.cycles)

pub add_fed_labels-requires : goal.add_fed_labels-requires
add_fed_labels-requires c = fed_room c.args.self.now.net c.args.self.now.binding c.args.self.now.cycles c.args.maker.now c.add_labels.new.maker c.requires c.args.self.now.few c.in_ok-add_labels.ensures
