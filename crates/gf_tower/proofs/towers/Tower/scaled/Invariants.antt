use Rattle.std.proofs.Common.{◌≡◌}
use Rattle.gf_tower.specs.private.DigitSteps.{scaled_from}
use Rattle.gf_tower.proofs.towers.Tower.scaled.Given as goal

abbrev pub invariant-loop-i : goal.invariant-loop-i
invariant-loop-i g l = l.result ≡ scaled_from (g.F.Ring.degree l.self.base) (g.F.Ring.product l.self.base) l.self.length l.a l.v l.i
