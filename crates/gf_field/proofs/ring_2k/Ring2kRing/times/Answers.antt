use Rattle.gf_field.proofs.TableStepLemmas.{are_multiples}
use Rattle.gf_field.proofs.ring_2k.Ring2kRing.times.Goals as goal

pub returns : goal.returns
returns c = record { table = are_multiples c.args.self.now.degree c.args.self.now.modulus c.args.a _ c.args.self.now.fits c.requires c.new.ensures.multiples }
