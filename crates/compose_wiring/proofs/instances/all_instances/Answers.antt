use Rattle.std.proofs.Common.{◌++◌, ◌∙◌, ap, sym}
use Rattle.compose_wiring.specs.private.Names.{connections_of}
use Rattle.compose_wiring.proofs.NamesLemmas.{instances_more}
use Rattle.compose_wiring.proofs.instances.all_instances.Goals as goal

pub loop-place-preserved : goal.loop-place-preserved
loop-place-preserved c = c.in_ok-add_instance.ensures ∙ ap (λ xs. xs ++ connections_of c.get.result) c.loop-place.invariant ∙ sym (instances_more c.args.items.now c.loop-place.place c.get.result (sym c.get.ensures.item))
