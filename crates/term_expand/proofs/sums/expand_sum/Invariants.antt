use Rattle.std.proofs.Common.{map}
use Rattle.term_expand.specs.Feeds.{feed_values}
use Rattle.term_expand.proofs.Summed.{IsSummed}
use Rattle.term_expand.proofs.sums.expand_sum.Given as goal

abbrev pub invariant-loop-s : goal.invariant-loop-s
invariant-loop-s g l = IsSummed (g.F.Ring.degree l.field) (g.F.Ring.product l.field) (feed_values (g.F.Ring.product l.field) (map (λ f. f.now.terms) l.feeds)) l.terms l.bound l.s l.sum.terms
