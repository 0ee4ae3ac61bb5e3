use Rattle.net_core.specs.Partial.{AreZeros}
use Rattle.net_core.proofs.levels.zeros.Given as goal

abbrev pub invariant-loop-source : goal.invariant-loop-source
invariant-loop-source l = AreZeros l.nets l.sources l.source-index l.levels.items
