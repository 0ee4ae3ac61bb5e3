use Rattle.net_core.specs.NetList.{nets}
use Rattle.unroll.specs.Nets.{all_cycles}
use Rattle.unroll.specs.declared.fault.UnrollFault.TheVariants.{OutOfMemory}
use Rattle.unroll.proofs.PlanLemmas.{no_fault, within_no_fault}
use Rattle.std.proofs.Common.{arith, refl}
use Rattle.unroll.proofs.CountLemmas.{nets_long}
use Rattle.unroll.proofs.unrolling.all_cycles.Goals as goal

pub returns-then-net_count-gt-MOST-clause-nets : goal.returns-then-net_count-gt-MOST-clause-nets
returns-then-net_count-gt-MOST-clause-nets c = ((λ same. omega (arith, nets_long c.args.net c.args.binding c.args.cycles, c.net_count.ensures, c.if-net_count-gt-MOST.true)), (λ more. refl))

pub returns-in-Ok-clause-nets : goal.returns-in-Ok-clause-nets
returns-in-Ok-clause-nets c = within_no_fault c.within_gates.result (nets (all_cycles c.args.net c.args.binding c.args.cycles)) c.net_count.result c.within_gates.ensures.other (omega (arith, nets_long c.args.net c.args.binding c.args.cycles, c.net_count.ensures)) (omega (arith, c.if-net_count-gt-MOST.false))

pub returns-in-Err-clause-nets : goal.returns-in-Err-clause-nets
returns-in-Err-clause-nets c = no_fault OutOfMemory (nets (all_cycles c.args.net c.args.binding c.args.cycles)) c.net_count.result (λ same. absurd (cc)) (omega (arith, nets_long c.args.net c.args.binding c.args.cycles, c.net_count.ensures)) (omega (arith, c.if-net_count-gt-MOST.false))
