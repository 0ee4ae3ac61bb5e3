use Rattle.std.proofs.Common.{◌≡◌, length}
use Rattle.poly_mixed.specs.Cofactor.{lacking}
use Rattle.poly_mixed.specs.Polynomial.{IsMap}
use Rattle.poly_mixed.proofs.TakenLemmas.{IsPart}
use Rattle.poly_mixed.proofs.poly.Poly.take_bit.Given as goal

abbrev pub invariant-loop-mono : goal.invariant-loop-mono
invariant-loop-mono l = record {
  map : IsMap l.self.terms;
  part_map : IsMap l.part.terms;
  left : lacking l.bit l.self.terms ≡ lacking l.bit l.initial.self.terms;
  sum : IsPart l.bit l.part.terms l.self.terms l.initial.self.terms;
}

abbrev pub decreases-loop-mono : goal.decreases-loop-mono
decreases-loop-mono l = length l.self.terms
