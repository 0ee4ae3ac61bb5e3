use Rattle.std.proofs.Common.{◌↔◌}
use Rattle.poly_mixed.specs.Text.{HasNames}
use Rattle.poly_mixed.specs.private.Indexed.{terms_in}
use Rattle.poly_mixed.proofs.named.has_names.Given as goal

abbrev pub invariant-loop-mono : goal.invariant-loop-mono
invariant-loop-mono l = HasNames l.labels (terms_in l.mono-iterator) ↔ HasNames l.labels l.poly.terms
