use Rattle.lists.specs.laws.ReadLaws.{got_read}
use Rattle.compose_wiring.proofs.StepLemmas.{outputs_more}
use Rattle.compose_wiring.proofs.listing.add_outputs.Goals as goal

pub loop-instance-preserved : goal.loop-instance-preserved
loop-instance-preserved c =
    outputs_more c.args.placed.now c.loop-instance.instance c.index-placed-instance.result c.args.list.now.items c.loop-instance.list.items c.add_output.new.list.items
    (got_read c.args.placed.now c.loop-instance.instance c.index-placed-instance.result c.loop-instance-test.true c.index-placed-instance.is) c.loop-instance.invariant c.in_ok-add_output.ensures
