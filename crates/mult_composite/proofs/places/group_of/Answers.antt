use Rattle.std.proofs.lemmas.Nat.{div_below}
use Rattle.mult_composite.proofs.places.group_of.Goals as goal

pub returns-clause-below : goal.returns-clause-below
returns-clause-below c = div_below c.args.p c.args.n c.args.c c.requires.some c.requires.place
