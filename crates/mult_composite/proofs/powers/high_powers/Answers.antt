use Rattle.mult_composite.proofs.RoomLemmas.{y_below}
use Rattle.gf_field.specs.Ring2k.{degree_of}
use Rattle.irreducible.specs.Proved.{ring_of}
use Rattle.gf_tower.specs.TowerParts.{base_of, size_of}
use Rattle.mult_composite.proofs.powers.high_powers.Goals as goal

pub power-element-requires : goal.power-element-requires
power-element-requires c = y_below c.args.n c.args.m c.y_of-y.result (degree_of (ring_of (base_of c.args.tower.now))) (size_of c.args.tower.now) c.y_of-y.ensures c.requires.degree c.requires.size c.requires.some c.requires.two
