use Rattle.std.proofs.Common.{◌≡◌, ◌++◌}
use Rattle.poly_mixed.specs.private.Indexed.{terms_in}
use Rattle.poly_mixed.proofs.poly.Poly.terms.Given as goal

abbrev pub invariant-loop-mono : goal.invariant-loop-mono
invariant-loop-mono l = l.terms.items ++ (terms_in l.mono-iterator) ≡ l.self.terms
