use Rattle.std.proofs.Common.{◌≡◌, map, take}
use Rattle.compose_polys.specs.Words.{feed_terms}
use Rattle.compose_polys.proofs.feeds.polys_of.Given as goal

abbrev pub invariant-loop-j : goal.invariant-loop-j
invariant-loop-j l = map (λ f. f.now.terms) l.list.items ≡ map (feed_terms (map (λ q. q.terms) l.words) (map (λ q. q.terms) l.polys)) (take l.j l.feeds)
