use Rattle.std.proofs.Common.{◌≡◌, drop, map}
use Rattle.term_expand.specs.SumValue.{factors_of}
use Rattle.term_expand.specs.Feeds.{feed_values}
use Rattle.term_expand.specs.private.Reached.{pairs_left, IsReached}
use Rattle.term_expand.proofs.factors.one_term.Given as goal

abbrev pub invariant-loop-pair : goal.invariant-loop-pair
invariant-loop-pair g l = record {
  rest : drop l.reached.factors (factors_of l.term.1) ≡ pairs_left l.pair l.term.1;
  reached : IsReached (g.F.Ring.degree l.field) (g.F.Ring.product l.field) (feed_values (g.F.Ring.product l.field) (map (λ f. f.now.terms) l.feeds)) l.term l.bound l.reached.factors l.reached.poly.terms;
}
