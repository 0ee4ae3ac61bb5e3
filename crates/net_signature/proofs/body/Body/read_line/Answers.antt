use Rattle.net_signature.specs.Body.{BodyValue}
use Rattle.net_signature.specs.Reading.{line_of}
use Rattle.net_signature.proofs.BodyLemmas.{line_read, line_fails}
use Rattle.net_signature.proofs.body.Body.read_line.Goals as goal

pub returns-in-Ok : goal.returns-in-Ok
returns-in-Ok c =
    let view : Unit {0} → BodyValue = λ u. c.next.new.self in
    line_read view c.args.self.now (line_of c.args.statement.now) c.in-Ok.entry c.next.result c.in-Ok.ensures.says c.next.ensures

pub returns-in-Err : goal.returns-in-Err
returns-in-Err c = line_fails c.args.self.now (line_of c.args.statement.now) c.in-Err.fault c.in-Err.ensures.says
