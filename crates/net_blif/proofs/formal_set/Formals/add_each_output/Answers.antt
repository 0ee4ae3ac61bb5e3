use Rattle.std.proofs.Common.{◌<◌, [], length}
use Rattle.net_blif.specs.private.Connecting.{formals_in, with_output}
use Rattle.net_blif.proofs.StepLemmas.{after_step}
use Rattle.net_blif.proofs.formal_set.Formals.add_each_output.Goals as goal

pub loop-place-preserved : goal.loop-place-preserved
loop-place-preserved c =
    let less : c.loop-place.place < length c.args.names.now = rw c.len-place-end.ensures at c.loop-place-test.true in
    after_step with_output c.args.names.now c.loop-place.place c.get.result.now [] _ (formals_in c.loop-place.self) (formals_in c.add_output.new.self) less c.get.ensures c.loop-place.invariant c.in_ok-add_output.ensures
