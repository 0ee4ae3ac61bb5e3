use Rattle.net_blif.specs.private.Connecting.{formals_in, with_inputs_in}
use Rattle.net_blif.proofs.StepLemmas.{after_got}
use Rattle.net_blif.proofs.formal_set.Formals.add_inputs.Goals as goal

pub loop-place-preserved : goal.loop-place-preserved
loop-place-preserved c = after_got with_inputs_in c.args.items.now c.loop-place.place c.get-item.result _ (formals_in c.loop-place.self) (formals_in c.add_inputs_in.new.self) c.get-item.ensures.item c.loop-place.invariant c.in_ok-add_inputs_in.ensures
