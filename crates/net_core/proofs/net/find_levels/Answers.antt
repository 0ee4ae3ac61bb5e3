use Rattle.std.proofs.Common.{subst}
use Rattle.graph_core.specs.declared.fault.CycleFault.{CycleFault}
use Rattle.net_core.specs.Driving.{IsLoopFault}
use Rattle.net_core.proofs.LoopLemmas.{sound_by_levels}
use Rattle.net_core.proofs.net.find_levels.Goals as goal

pub loop_fault-requires-clause-inside : goal.loop_fault-requires-clause-inside
loop_fault-requires-clause-inside c = c.nets_in_order.ensures.inside

pub loop_fault-requires-clause-found : goal.loop_fault-requires-clause-found
loop_fault-requires-clause-found c =
    let P : CycleFault → Type 0 = λ fault. IsLoopFault c.args.net.now fault in
    subst P c.in-Err-Cycle.field-0-is c.in-Err-Cycle.ensures.cycle

pub returns-in_ok-levels-in-Ok-clause-sound : goal.returns-in_ok-levels-in-Ok-clause-sound
returns-in_ok-levels-in-Ok-clause-sound c = sound_by_levels c.args.net.now c.in_ok-levels-in-Ok.levels.items c.nets_in_order.ensures.inside c.requires c.in_ok-levels-in-Ok.ensures
