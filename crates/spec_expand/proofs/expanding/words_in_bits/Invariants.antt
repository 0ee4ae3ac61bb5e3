use Rattle.std.proofs.Common.{◌≡◌, length, map}
use Rattle.circuit_model.specs.Bases.{circuit_in}
use Rattle.spec_expand.specs.private.Expanding.{AreOfWords}
use Rattle.spec_expand.proofs.expanding.words_in_bits.Given as goal

abbrev pub invariant-loop-word : goal.invariant-loop-word
invariant-loop-word g l = record {
  long : length l.polys.items ≡ l.word;
  each : AreOfWords (circuit_in (g.F.Ring.degree l.field) (g.F.Ring.product l.field) l.circuit l.bases) (map (λ q. q.terms) l.polys.items);
}
