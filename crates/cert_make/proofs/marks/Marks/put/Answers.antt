use Rattle.cert_make.proofs.marks.Marks.put.Goals as goal

pub returns : goal.returns
returns c = c.in_ok-insert.ensures.updates.0
