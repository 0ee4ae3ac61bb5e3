use Rattle.std.proofs.Common.{◌≡◌, ◌≤◌, ◌+◌, drop}
use Rattle.compose_polys.specs.LevelOrder.{level_from, level_over}
use Rattle.compose_polys.proofs.levels.level_over.Given as goal

abbrev pub invariant-loop-j : goal.invariant-loop-j
invariant-loop-j l = record {
  level : level_from l.levels l.level (drop l.j l.points) ≡ level_over l.levels l.points;
  low : l.level ≤ l._most + 1;
}
