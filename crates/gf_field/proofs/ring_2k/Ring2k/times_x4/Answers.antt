use Rattle.gf_field.proofs.TableStepLemmas.{four_steps, power_element}
use Rattle.gf_field.proofs.ring_2k.Ring2k.times_x4.Goals as goal

pub returns-clause-product : goal.returns-clause-product
returns-clause-product c = rw (c.multiples.ensures) (four_steps c.args.self.now.degree c.args.self.now.modulus c.args.a _ c.args.self.now.fits c.requires c.args.self.now.reduces)

pub returns-clause-element : goal.returns-clause-element
returns-clause-element c = rw (returns-clause-product c) (power_element c.args.self.now.degree c.args.self.now.modulus 4 c.args.a c.args.self.now.fits c.requires)
