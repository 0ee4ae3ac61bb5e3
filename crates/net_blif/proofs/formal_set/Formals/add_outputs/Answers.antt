use Rattle.net_blif.specs.private.Connecting.{formals_in, with_outputs_in}
use Rattle.net_blif.proofs.StepLemmas.{after_got}
use Rattle.net_blif.proofs.formal_set.Formals.add_outputs.Goals as goal

pub loop-place-preserved : goal.loop-place-preserved
loop-place-preserved c = after_got with_outputs_in c.args.items.now c.loop-place.place c.get-item.result _ (formals_in c.loop-place.self) (formals_in c.add_outputs_in.new.self) c.get-item.ensures.item c.loop-place.invariant c.in_ok-add_outputs_in.ensures
