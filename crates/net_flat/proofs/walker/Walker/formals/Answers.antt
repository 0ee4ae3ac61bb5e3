use Rattle.std.proofs.Common.{◌≤◌, length, []}
use Rattle.net_flat.specs.private.KnownNumbers.{known_in}
use Rattle.net_flat.specs.private.WalkerState.{state_of}
use Rattle.net_flat.proofs.EnterLemmas.{numbers_before}
use Rattle.net_flat.proofs.walker.Walker.formals.Goals as goal

pub loop-place-preserved : goal.loop-place-preserved
loop-place-preserved c =
    let below : c.loop-place.place ≤ length c.args.connections.now = rw c.len-place.ensures at c.loop-place.auto.place in
    numbers_before (state_of c.args.self.now) c.args.connections.now c.loop-place.place c.loop-place-test.true below c.get.result.now [] c.sides.result.0.now c.args.self.now.inputs.items c.index.result.now c.index.result.now (known_in c.loop-place.known) (known_in c.connect.new.self) c.get.ensures c.sides.ensures.formal c.requires.numbers c.index.ensures c.loop-place.invariant c.in_ok-connect.ensures
