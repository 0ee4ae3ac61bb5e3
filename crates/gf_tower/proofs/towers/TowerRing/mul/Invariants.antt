use Rattle.std.proofs.Common.{◌≡◌}
use Rattle.gf_tower.specs.private.DigitSteps.{modulus_of}
use Rattle.gf_tower.specs.private.DigitSteps.{from_digit}
use Rattle.gf_tower.proofs.towers.TowerRing.mul.Given as goal

abbrev pub invariant-loop-i : goal.invariant-loop-i
invariant-loop-i g l = l.sum ≡ from_digit (g.F.Ring.degree l.self.base) (g.F.Ring.product l.self.base) l.self.length (modulus_of (g.F.Ring.degree l.self.base) l.self.length l.self.low) l.a l.b l.i
