use Rattle.std.proofs.Common.{take, map}
use Rattle.gf_basis.specs.BasisParts.{elements_of}
use Rattle.word_subst.specs.AtOnce.{IsSumOfPowers}
use Rattle.word_subst.proofs.at_once.powers.Given as goal

abbrev pub invariant-loop-term : goal.invariant-loop-term
invariant-loop-term g l = IsSumOfPowers (g.F.Ring.degree l.field) (g.F.Ring.product l.field) (elements_of l._basis) l.word (map (λ t. t.now) (take l.term-index l.terms)) l.sum
