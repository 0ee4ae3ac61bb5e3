use Rattle.std.proofs.Common.{◌≡◌, ◌≢◌, drop, map}
use Rattle.term_expand.specs.SumValue.{factors_of}
use Rattle.term_expand.specs.Feeds.{feed_values}
use Rattle.term_expand.specs.private.Reached.{digits_left, IsFeedPower, IsReached}
use Rattle.term_expand.proofs.factors.one_pair.Given as goal

abbrev pub invariant-loop-j : goal.invariant-loop-j
invariant-loop-j g l = record {
  rest : drop l.reached.factors (factors_of l.term.1) ≡ digits_left l.word l.j l.left l.pair l.term.1;
  power : l.left ≢ 0 → IsFeedPower (g.F.Ring.degree l.field) (g.F.Ring.product l.field) (feed_values (g.F.Ring.product l.field) (map (λ f. f.now.terms) l.feeds)) l.word l.j l.power.terms;
  reached : IsReached (g.F.Ring.degree l.field) (g.F.Ring.product l.field) (feed_values (g.F.Ring.product l.field) (map (λ f. f.now.terms) l.feeds)) l.term l.bound l.reached.factors l.reached.poly.terms;
}
