use Rattle.unroll.proofs.PlanLemmas.{source_is_bit}
use Rattle.unroll.proofs.plan.Plan.add_source.Goals as goal

pub bit_net-requires : goal.bit_net-requires
bit_net-requires c = source_is_bit c.args.self.now.binding c.args.source c.in-Bit.word c.in-Bit.place c.in-Bit.is c.requires.source
