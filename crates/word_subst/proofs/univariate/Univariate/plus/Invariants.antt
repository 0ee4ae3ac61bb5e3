use Rattle.std.proofs.Common.{length, ◌-◌, ◌+◌}
use Rattle.word_subst.specs.Merge.{IsMerging}
use Rattle.word_subst.proofs.univariate.Univariate.plus.Given as goal

abbrev pub invariant-loop-i : goal.invariant-loop-i
invariant-loop-i g l = IsMerging (g.F.Ring.degree l._field) (g.F.Ring.product l._field) l.self l.other l.i l.j l.sum.items

abbrev pub decreases-loop-i : goal.decreases-loop-i
decreases-loop-i g l = (length l.self + length l.other) - (l.i + l.j)
