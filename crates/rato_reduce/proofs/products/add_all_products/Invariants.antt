use Rattle.std.proofs.Common.{◌≡◌, drop}
use Rattle.std.specs.List.{AllByRecursion}
use Rattle.poly_mixed.specs.Monomial.{text_cmp}
use Rattle.poly_mixed.specs.Cofactor.{cofactors, lacking}
use Rattle.poly_mixed.specs.Sum.{plus}
use Rattle.rato_reduce.specs.private.CutTerms.{all_products, IsBitTerm}
use Rattle.rato_reduce.specs.private.Rows.{lines_of}
use Rattle.rato_reduce.proofs.products.add_all_products.Given as goal

abbrev pub invariant-loop-row : goal.invariant-loop-row
invariant-loop-row l = record {
  each : AllByRecursion IsBitTerm (lines_of l.ranks (drop l.row-index l.rows));
  sum : plus text_cmp l.cut.terms (all_products (cofactors l.rank (lines_of l.ranks (drop l.row-index l.rows))) l.sets) ≡ plus text_cmp l.initial.cut.terms (all_products (cofactors l.rank (lines_of l.ranks l.rows)) l.sets);
  others : lacking l.rank (lines_of l.ranks (drop l.row-index l.rows)) ≡ lacking l.rank (lines_of l.ranks l.rows);
}
