use Rattle.std.specs.Int.Bits.{xor_lt}
use Rattle.gf_tower.proofs.towers.TowerRing.add.Goals as goal

pub returns-clause-element : goal.returns-clause-element
returns-clause-element g c = xor_lt _ c.args.a c.args.b c.requires.first c.requires.second
