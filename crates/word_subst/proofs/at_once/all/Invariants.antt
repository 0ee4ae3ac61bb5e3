use Rattle.std.proofs.Common.{◌≡◌, ◌++◌, drop, map}
use Rattle.word_subst.proofs.at_once.all.Given as goal

abbrev pub invariant-loop-term : goal.invariant-loop-term
invariant-loop-term l = map (λ t. t.now) l.list.items ++ drop l.term-index l.terms ≡ l.terms
