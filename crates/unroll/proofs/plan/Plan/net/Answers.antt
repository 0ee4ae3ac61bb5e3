use Rattle.unroll.proofs.PlanLemmas.{made_sound}
use Rattle.unroll.proofs.plan.Plan.net.Goals as goal

pub finished-requires : goal.finished-requires
finished-requires c = made_sound c.args.self.now.net c.args.self.now.binding c.args.self.now.cycles c.in_ok-maker.maker c.args.self.now.sound c.requires.binding c.args.self.now.few c.requires.room c.in_ok-maker.ensures
