use Rattle.std.proofs.lemmas.Nat.{mod_below}
use Rattle.mult_composite.proofs.places.bit_of.Goals as goal

pub returns-clause-below : goal.returns-clause-below
returns-clause-below c = mod_below c.args.p c.args.n c.requires
