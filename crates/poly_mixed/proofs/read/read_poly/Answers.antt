use Rattle.poly_mixed.proofs.ReadResultLemmas.{fits, reduced}
use Rattle.poly_mixed.proofs.read.read_poly.Goals as goal

pub returns-clause-outcome : goal.returns-clause-outcome
returns-clause-outcome c = fits c.args.labels.now c.args.k c.args.bytes.now c.requires.0 c.check.ensures c.read_parts.result c.read_parts.ensures.read c.read_parts.ensures.fault

pub returns-clause-reduced : goal.returns-clause-reduced
returns-clause-reduced c = reduced c.args.labels.now c.args.k c.args.bytes.now c.requires.0 c.check.ensures c.read_parts.result c.read_parts.ensures.read
