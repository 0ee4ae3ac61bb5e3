use Rattle.std.specs.List.{AllByRecursion}
use Rattle.word_subst.specs.Whole.{IsPart}
use Rattle.word_subst.proofs.whole.parts.Given as goal

abbrev pub invariant-loop-term : goal.invariant-loop-term
invariant-loop-term g l = AllByRecursion (IsPart l.word (g.F.Ring.degree l.field)) l.list.items
