use Rattle.std.proofs.Common.{◌≡◌, ◌+◌, ℕ, List, [], drop, get_or, sym, ◌∙◌, ap, subst, arith}
use Rattle.std.specs.List.{AllByRecursion}
use Rattle.std.proofs.lemmas.List.{drop_all}
use Rattle.poly_mixed.specs.Cofactor.{cofactors, lacking}
use Rattle.poly_mixed.specs.Monomial.{text_cmp}
use Rattle.poly_mixed.specs.Polynomial.{Terms}
use Rattle.poly_mixed.specs.Sum.{plus}
use Rattle.rato_reduce.specs.declared.row.Row.{Row}
use Rattle.rato_reduce.specs.private.CutTerms.{all_products, IsBitTerm}
use Rattle.rato_reduce.specs.private.Pairs.{pair_sets, HasLevels}
use Rattle.rato_reduce.specs.private.Rows.{line_at, lines_of}
use Rattle.rato_reduce.proofs.CutPartLemmas.{step_others, step_put}
use Rattle.rato_reduce.proofs.RowLemmas.{next_line, no_row}
use Rattle.rato_reduce.proofs.products.add_rows.Goals as goal

pub loop-row-preserved : goal.loop-row-preserved
loop-row-preserved c =
    let ranks = c.args.ranks.now in
    let rows = c.args.rows.now in
    let i = c.loop-row.row-index in
    let line = line_at ranks (get_or rows i no_row) in
    let rest = lines_of ranks (drop i rows) in
    let after = lines_of ranks (drop (i + 1) rows) in
    let next = next_line ranks rows i c.loop-row-test.true in
    let sets : List (List ℕ) = pair_sets c.args.pair.now in
    let P : Terms → Type 0 = AllByRecursion IsBitTerm in
    record {
      each = (subst P next c.loop-row.invariant.each).1;
      places = c.add_row.ensures.places ∙ c.loop-row.invariant.places;
      sum = step_put c.loop-row.cut.terms c.add_row.new.cut.terms _ c.args.rank line rest after sets next c.loop-row.invariant.sum c.in_ok-add_row.ensures.put;
      others = step_others c.loop-row.cut.terms c.add_row.new.cut.terms c.args.rank line rest after _ sets next c.loop-row.invariant.others c.in_ok-add_row.ensures.put;
    }

pub add_row-requires-clause-term : goal.add_row-requires-clause-term
add_row-requires-clause-term c =
    let P : Terms → Type 0 = AllByRecursion IsBitTerm in
    (subst P (next_line c.args.ranks.now c.args.rows.now c.loop-row.row-index c.loop-row-test.true) c.loop-row.invariant.each).0

pub add_row-requires-clause-levels : goal.add_row-requires-clause-levels
add_row-requires-clause-levels c = let P : List ℕ → Type 0 = λ places. HasLevels places c.args.pair.now in subst P (sym c.loop-row.invariant.places) c.requires.levels

pub returns : goal.returns
returns c =
    let rows = c.args.rows.now in
    let ranks = c.args.ranks.now in
    let done : drop c.loop-row.row-index rows ≡ [] = drop_all c.loop-row.row-index rows (omega arith) in
    record {
      sum = sym (ap (λ (rs : List Row). plus text_cmp c.loop-row.cut.terms (all_products (cofactors c.args.rank (lines_of ranks rs)) (pair_sets c.args.pair.now))) done) ∙ c.loop-row.invariant.sum;
      no_others = sym c.loop-row.invariant.others ∙ ap (λ (rs : List Row). lacking c.args.rank (lines_of ranks rs)) done;
    }
