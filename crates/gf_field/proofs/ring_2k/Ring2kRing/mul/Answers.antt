use Rattle.gf_field.proofs.TableStepLemmas.{remainder_is}
use Rattle.gf_field.proofs.ring_2k.Ring2kRing.mul.Goals as goal

pub returns-clause-remainder : goal.returns-clause-remainder
returns-clause-remainder c = remainder_is _ _ c.args.a c.args.b _ c.args.self.now.fits c.requires.first c.requires.second (c.by.ensures.product c.args.a c.requires.first c.times.ensures.table)
