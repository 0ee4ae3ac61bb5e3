use Rattle.std.specs.Int.Bits.{xor_lt}
use Rattle.gf_field.proofs.ring_2k.Ring2kRing.add.Goals as goal

pub returns-clause-element : goal.returns-clause-element
returns-clause-element c = xor_lt c.args.self.now.degree _ _ c.requires.first c.requires.second
