use Rattle.net_verilog.specs.private.Places.{left, value_of}
use Rattle.net_verilog.proofs.AfterLemmas.{over}
use Rattle.verilog_reader.proofs.BodyLemmas.{item_made, item_refused, item_unended}
use Rattle.verilog_reader.proofs.items.read_item.Goals as goal

pub returns-in-Err-clause-fault : goal.returns-in-Err-clause-fault
returns-in-Err-clause-fault c = over (item_refused (c.args.declared.now, c.args.maker.now) (left c.args.place.now) (left c.next.result.1) (value_of c.next.result.0) c.item_start-start.result c.next.ensures.next c.item_start-start.ensures c.in-Err.fault) c.in-Err.ensures.fault

pub returns-in-Ok-take-clause-made : goal.returns-in-Ok-take-clause-made
returns-in-Ok-take-clause-made c = item_made (c.args.declared.now, c.args.maker.now) (left c.args.place.now) (left c.next.result.1) (value_of c.next.result.0) c.item_start-start.result c.next.ensures.next c.item_start-start.ensures (c.read_body.new.declared, c.read_body.new.maker) (left c.in-Ok.end) (left c.in-Ok-take.after) c.in-Ok-take.field-0-0 c.in-Ok.ensures.made c.in-Ok-take.ensures.found

pub returns-in-Err-take-clause-fault : goal.returns-in-Err-take-clause-fault
returns-in-Err-take-clause-fault c = over (item_unended (c.args.declared.now, c.args.maker.now) (left c.args.place.now) (left c.next.result.1) (value_of c.next.result.0) c.item_start-start.result c.next.ensures.next c.item_start-start.ensures (c.read_body.new.declared, c.read_body.new.maker) (left c.in-Ok.end) c.in-Err-take.fault c.in-Ok.ensures.made) c.in-Err-take.ensures.fault
