use Rattle.std.proofs.Common.{◌≡◌, length, map}
use Rattle.compose_polys.specs.Words.{AreWordPolys}
use Rattle.compose_polys.proofs.words.word_polys.Given as goal

abbrev pub invariant-loop-word : goal.invariant-loop-word
invariant-loop-word g l = record {
  count : length l.polys.items ≡ l.word;
  words : AreWordPolys (g.F.Ring.degree l.field) (g.F.Ring.product l.field) (map (λ q. q.terms) l.polys.items);
}
