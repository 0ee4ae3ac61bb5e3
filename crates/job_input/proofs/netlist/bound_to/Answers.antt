use Rattle.job_input.proofs.NetlistLemmas.{fault_named, unbound}
use Rattle.job_input.proofs.netlist.bound_to.Goals as goal

pub binding_fault-requires : goal.binding_fault-requires
binding_fault-requires c = fault_named c.args.net c.args.words.now c.args.feeds.now c.in-Err.fault c.bind.ensures.sound.inside c.in-Err.ensures.fits

pub new-requires-clause-sound : goal.new-requires-clause-sound
new-requires-clause-sound c = c.bind.ensures.sound

pub returns-in-Err-clause-fits : goal.returns-in-Err-clause-fits
returns-in-Err-clause-fits c = unbound c.args.net c.args.words.now c.args.feeds.now c.in-Err.fault c.binding_fault.result c.in-Err.ensures.fits c.binding_fault.ensures.same c.binding_fault.ensures.memory

pub returns-in-Ok-clause-fits : goal.returns-in-Ok-clause-fits
returns-in-Ok-clause-fits c = (c.in-Ok.binding, c.in-Ok.ensures.fits, c.new.ensures)
