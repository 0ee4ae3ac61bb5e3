use Rattle.gf_field.specs.Ring2k.{degree_of, modulus_of}
use Rattle.irreducible.specs.Proved.{ring_of}
use Rattle.make_trial.proofs.DifferLemmas.{differs}
use Rattle.make_trial.proofs.turned_laws.turned_multipliers_differ.Goals as goal

pub returns : goal.returns
returns c = differs (degree_of (ring_of c.args._ring.now)) (modulus_of (ring_of c.args._ring.now)) c.args._ring.now.ring.fits c.args._ring.now.no_zero_divisors
