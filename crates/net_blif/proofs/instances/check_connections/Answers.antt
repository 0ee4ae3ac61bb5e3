use Rattle.std.proofs.Common.{rules, ◌<◌, [], length}
use Rattle.net_blif.specs.Table.{numbers_in}
use Rattle.net_blif.specs.private.Connecting.{connect, table_fault, IsFault}
use Rattle.net_blif.proofs.StepLemmas.{after_step, table_here, table_later}
use Rattle.net_blif.proofs.instances.check_connections.Goals as goal

pub returns-in_err-check_connection-clause-fault : goal.returns-in_err-check_connection-clause-fault
returns-in_err-check_connection-clause-fault c =
    let less : c.loop-place.place < length c.args.connections.now = rw c.len-place-end.ensures at c.loop-place-test.true in
    let fault : IsFault (table_fault c.args.line (numbers_in c.args.formals.now) (numbers_in c.args.connected.now) c.args.connections.now) c.in_err-check_connection.field-0.0 = table_here c.args.line (numbers_in c.args.formals.now) (numbers_in c.loop-place.connected) c.args.connections.now c.loop-place.place c.get.result.now [] _ less c.get.ensures c.loop-place.invariant.fault c.in_err-check_connection.field-0.0 c.in_err-check_connection.ensures.fault in
    search rules

pub loop-place-preserved : goal.loop-place-preserved
loop-place-preserved c =
    let less : c.loop-place.place < length c.args.connections.now = rw c.len-place-end.ensures at c.loop-place-test.true in
    record {
      fault = table_later c.args.line (numbers_in c.args.formals.now) (numbers_in c.loop-place.connected) c.args.connections.now c.loop-place.place c.get.result.now [] _ less c.get.ensures c.loop-place.invariant.fault (numbers_in c.check_connection.new.connected) c.in_ok-check_connection.ensures.right c.in_ok-check_connection.ensures.connected;
      connected = after_step connect c.args.connections.now c.loop-place.place c.get.result.now [] _ (numbers_in c.loop-place.connected) (numbers_in c.check_connection.new.connected) less c.get.ensures c.loop-place.invariant.connected c.in_ok-check_connection.ensures.connected;
    }
