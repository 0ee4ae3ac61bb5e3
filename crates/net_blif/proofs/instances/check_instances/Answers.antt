use Rattle.std.proofs.Common.{rules, ◌<◌, length}
use Rattle.net_blif.specs.Instances.{instances_fault}
use Rattle.net_blif.specs.private.Connecting.{IsFault}
use Rattle.net_blif.proofs.InstanceLemmas.{models_fault, models_later}
use Rattle.net_blif.proofs.instances.check_instances.Goals as goal

pub returns-in_err-check_items-clause-fault : goal.returns-in_err-check_items-clause-fault
returns-in_err-check_items-clause-fault c =
    let less : c.loop-model.model < length c.args.models.now = search rules in
    let fault : IsFault (instances_fault c.args.models.now) c.in_err-check_items.field-0.0 = models_fault c.args.models.now c.loop-model.model c.items.result.now _ less c.items.ensures c.loop-model.invariant c.in_err-check_items.field-0.0 c.in_err-check_items.ensures.fault in
    search rules

pub loop-model-preserved : goal.loop-model-preserved
loop-model-preserved c =
    let less : c.loop-model.model < length c.args.models.now = search rules in
    models_later c.args.models.now c.loop-model.model c.items.result.now _ less c.items.ensures c.loop-model.invariant c.in_ok-check_items.ensures.right
