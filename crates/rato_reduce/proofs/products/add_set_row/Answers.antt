use Rattle.std.proofs.Common.{ℕ, List, [], ◌∷◌, take, sym, ◌∙◌, ap, subst}
use Rattle.std.specs.List.{AllByRecursion}
use Rattle.poly_mixed.specs.Polynomial.{Terms}
use Rattle.rato_reduce.specs.private.Buckets.{AreUpTo}
use Rattle.rato_reduce.specs.private.CutTerms.{IsBitTerm}
use Rattle.rato_reduce.specs.private.Rows.{line_at, product_of}
use Rattle.rato_reduce.proofs.CutBitLemmas.{cofactor_terms}
use Rattle.rato_reduce.proofs.CutPartLemmas.{one_put_in}
use Rattle.rato_reduce.proofs.products.add_set_row.Goals as goal

pub add_products-requires-clause-front : goal.add_products-requires-clause-front
add_products-requires-clause-front c =
    let P : List ℕ → Type 0 = AreUpTo c.args.cut.now.places c.level_below-place.result.1 in
    subst P (ap (take c.level_below-place.result.0) c.bits_of-bits.ensures ∙ sym c.in-Some.ensures.front) c.level_below-place.ensures.up_to

pub add_products-requires-clause-term : goal.add_products-requires-clause-term
add_products-requires-clause-term c =
    let P : Terms → Type 0 = AllByRecursion IsBitTerm in
    (subst P (sym c.in-Some.ensures.without) (cofactor_terms c.args.rank (line_at c.args.ranks.now c.args.row.now ∷ []) (c.requires, tt))).0

pub returns-in_ok-add_products-in-Some : goal.returns-in_ok-add_products-in-Some
returns-in_ok-add_products-in-Some c =
    one_put_in c.args.cut.now.terms c.add_products.new.cut.terms c.args.rank (line_at c.args.ranks.now c.args.row.now) (product_of c.in-Some.term []) c.args.sets.now c.in-Some.ensures.without c.in-Some.ensures.has c.in_ok-add_products-in-Some.ensures
