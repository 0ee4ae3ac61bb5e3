use Rattle.std.proofs.Common.{◌≡◌, ◌++◌, drop, not}
use Rattle.std.specs.List.{filter}
use Rattle.poly_mixed.specs.Monomial.{has_bit}
use Rattle.word_subst.proofs.at_once.without_bit.Given as goal

abbrev pub invariant-loop-term : goal.invariant-loop-term
invariant-loop-term l = l.list.items ++ filter (λ t. not (has_bit l.rank t.now.0)) (drop l.term-index l.terms) ≡ filter (λ t. not (has_bit l.rank t.now.0)) l.terms
