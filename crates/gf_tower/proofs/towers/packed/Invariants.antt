use Rattle.std.proofs.Common.{◌≡◌, drop}
use Rattle.gf_tower.specs.Tower.{polynomial_of}
use Rattle.gf_tower.proofs.towers.packed.Given as goal

abbrev pub invariant-loop-i : goal.invariant-loop-i
invariant-loop-i l = l.low ≡ polynomial_of l.n (drop l.i l.coefficients)
