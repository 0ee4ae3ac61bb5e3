use Rattle.net_blif.proofs.InPlaceLemmas.{feed_ends}
use Rattle.net_blif.proofs.in_place.after_end.Goals as goal

pub returns-then-byte-eq10-clause-line : goal.returns-then-byte-eq10-clause-line
returns-then-byte-eq10-clause-line c = feed_ends c.args.byte c.args.rest.now c.if-byte-eq10.true
