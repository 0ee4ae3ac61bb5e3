use Rattle.net_signature.proofs.reader.read_body.Goals as goal

pub returns-in-Ok : goal.returns-in-Ok
returns-in-Ok c = rw c.new-body.ensures at c.in-Ok.ensures

pub returns-in-Err : goal.returns-in-Err
returns-in-Err c = rw c.new-body.ensures at c.in-Err.ensures
