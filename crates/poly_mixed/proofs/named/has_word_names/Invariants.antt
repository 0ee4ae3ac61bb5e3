use Rattle.std.proofs.Common.{◌↔◌}
use Rattle.poly_mixed.specs.Text.{HasWordNames}
use Rattle.poly_mixed.specs.private.Indexed.{terms_in}
use Rattle.poly_mixed.proofs.named.has_word_names.Given as goal

abbrev pub invariant-loop-mono : goal.invariant-loop-mono
invariant-loop-mono l = HasWordNames l.labels (terms_in l.mono-iterator) ↔ HasWordNames l.labels l.poly.terms
