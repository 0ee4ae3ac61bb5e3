use Rattle.std.proofs.Common.{rules}
use Rattle.net_blif.specs.Instances.{first_found, instance_fault}
use Rattle.net_blif.specs.private.Connecting.{IsFault}
use Rattle.net_blif.proofs.StepLemmas.{fault_got, got_later}
use Rattle.net_blif.proofs.instances.check_items.Goals as goal

pub returns-in_err-check_item-clause-fault : goal.returns-in_err-check_item-clause-fault
returns-in_err-check_item-clause-fault c =
    let fault : IsFault (first_found (instance_fault c.args.models.now) c.args.items.now) c.in_err-check_item.field-0.0 = fault_got (instance_fault c.args.models.now) c.args.items.now c.loop-place.place c.get-item.result _ c.in_err-check_item.field-0.0 c.get-item.ensures.item c.loop-place.invariant c.in_err-check_item.ensures.fault in
    search rules

pub loop-place-preserved : goal.loop-place-preserved
loop-place-preserved c = got_later (instance_fault c.args.models.now) c.args.items.now c.loop-place.place c.get-item.result _ c.get-item.ensures.item c.loop-place.invariant c.in_ok-check_item.ensures.right
