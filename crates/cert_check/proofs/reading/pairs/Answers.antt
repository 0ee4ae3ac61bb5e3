use Rattle.cert_check.proofs.reading.pairs.Goals as goal

pub returns : goal.returns
returns c = c.pairs_of.ensures
