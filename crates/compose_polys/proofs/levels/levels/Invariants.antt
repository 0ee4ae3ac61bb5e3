use Rattle.compose_polys.proofs.LevelLemmas.{AreFirstLevels}
use Rattle.compose_polys.proofs.levels.levels.Given as goal

abbrev pub invariant-loop-m : goal.invariant-loop-m
invariant-loop-m l = AreFirstLevels l.graph l.order l.m l.levels.items
