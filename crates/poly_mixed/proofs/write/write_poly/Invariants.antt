use Rattle.std.proofs.Common.{◌≡◌, map, codes, [], true}
use Rattle.poly_mixed.specs.Parts.{parts_after}
use Rattle.poly_mixed.specs.Text.{HasNames, term_text}
use Rattle.poly_mixed.specs.private.Indexed.{terms_in}
use Rattle.poly_mixed.proofs.write.write_poly.Given as goal

abbrev pub invariant-loop-mono : goal.invariant-loop-mono
invariant-loop-mono l = record {
  named : HasNames l.labels (terms_in l.mono-iterator);
  text : parts_after (codes " + ") l.is_first l.out.items (map (term_text l.labels) (terms_in l.mono-iterator)) ≡ parts_after (codes " + ") true [] (map (term_text l.labels) l.poly.terms);
}
