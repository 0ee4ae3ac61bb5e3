use Rattle.std.proofs.Common.{◌≡◌, [], drop}
use Rattle.poly_mixed.specs.Monomial.{text_cmp}
use Rattle.poly_mixed.specs.Sum.{plus}
use Rattle.rato_reduce.specs.private.CutTerms.{products}
use Rattle.rato_reduce.specs.private.Rows.{product_of}
use Rattle.rato_reduce.proofs.products.add_products.Given as goal

abbrev pub invariant-loop-set : goal.invariant-loop-set
invariant-loop-set l = record {
  places : l.cut.places ≡ l.initial.cut.places;
  sum : plus text_cmp l.cut.terms (products (product_of l.term []) (drop l.set-index l.sets)) ≡ plus text_cmp l.initial.cut.terms (products (product_of l.term []) l.sets);
}
