use Rattle.std.proofs.Common.{rules, ◌≡◌, sym, ◌<◌, true, false, length}
use Rattle.std.specs.List.{list_any}
use Rattle.net_blif.specs.Top.{is_instance}
use Rattle.net_blif.proofs.BareLemmas.{instances_here, instances_later}
use Rattle.net_blif.proofs.design.have_instances.Goals as goal

pub returns-then-has_instance : goal.returns-then-has_instance
returns-then-has_instance c =
    let less : c.loop-model.model < length c.args.models.now = search rules in
    let some : list_any is_instance c.items.result.now ≡ true = search rules in
    sym (instances_here c.args.models.now c.loop-model.model c.items.result.now _ less c.items.ensures c.loop-model.invariant some)

pub loop-model-preserved : goal.loop-model-preserved
loop-model-preserved c =
    let less : c.loop-model.model < length c.args.models.now = search rules in
    let none : list_any is_instance c.items.result.now ≡ false = search rules in
    instances_later c.args.models.now c.loop-model.model c.items.result.now _ less c.items.ensures c.loop-model.invariant none
