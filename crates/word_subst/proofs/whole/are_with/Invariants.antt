use Rattle.std.proofs.Common.{◌≡◌, map, take}
use Rattle.word_subst.specs.Whole.{with_first}
use Rattle.word_subst.proofs.whole.are_with.Given as goal

abbrev pub invariant-loop-j : goal.invariant-loop-j
invariant-loop-j g l = take l.j l.terms ≡ map (with_first (g.F.Ring.product l.field) l.rank l.b) (take l.j l.parts)
