use Rattle.std.proofs.Common.{◌<◌, [], length}
use Rattle.net_blif.specs.private.Once.{once_in, with_one_port}
use Rattle.net_blif.proofs.StepLemmas.{after_step}
use Rattle.net_blif.proofs.once.Once.add_ports.Goals as goal

pub loop-place-preserved : goal.loop-place-preserved
loop-place-preserved c =
    let less : c.loop-place.place < length c.args.names.now = rw c.len-place-end.ensures at c.loop-place-test.true in
    after_step with_one_port c.args.names.now c.loop-place.place c.get.result.now [] _ (once_in c.loop-place.self) (once_in c.add_port.new.self) less c.get.ensures c.loop-place.invariant c.in_ok-add_port.ensures
