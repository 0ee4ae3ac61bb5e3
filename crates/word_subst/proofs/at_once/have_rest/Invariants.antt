use Rattle.std.proofs.Common.{◌≡◌, take}
use Rattle.std.specs.List.{AllByRecursion}
use Rattle.word_subst.specs.Rest.{rest_of}
use Rattle.word_subst.proofs.at_once.have_rest.Given as goal

abbrev pub invariant-loop-term : goal.invariant-loop-term
invariant-loop-term l = AllByRecursion (λ t. rest_of l.k l.word t.0 ≡ l.first) (take l.term-index l.terms)
