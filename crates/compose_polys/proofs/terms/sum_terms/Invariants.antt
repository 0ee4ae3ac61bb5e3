use Rattle.std.proofs.Common.{◌≡◌, map, take}
use Rattle.compose_polys.specs.Instance.{block_term}
use Rattle.compose_polys.proofs.terms.sum_terms.Given as goal

abbrev pub invariant-loop-s : goal.invariant-loop-s
invariant-loop-s g l = l.made.items ≡ map block_term (take l.s l.block.terms)
