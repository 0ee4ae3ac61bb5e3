use Rattle.std.proofs.Common.{◌+◌, ℕ, List, [], ◌∷◌, ◌++◌, drop, get_or, ◌∙◌, ap, subst}
use Rattle.std.specs.List.{AllByRecursion}
use Rattle.poly_mixed.specs.Polynomial.{Terms}
use Rattle.rato_reduce.specs.private.CutTerms.{of_bits, IsBitTerm}
use Rattle.rato_reduce.specs.private.Rows.{line_at, lines_of}
use Rattle.rato_reduce.proofs.ListedLemmas.{step_line}
use Rattle.rato_reduce.proofs.RowLemmas.{next_line, no_row}
use Rattle.rato_reduce.proofs.listed.push_rows.Goals as goal

pub loop-row-preserved : goal.loop-row-preserved
loop-row-preserved c =
    let ranks = c.args.ranks.now in
    let rows = c.args.rows.now in
    let i = c.loop-row.row-index in
    let old : Terms = c.loop-row.terms.items in
    let row = get_or rows i no_row in
    let next = next_line ranks rows i c.loop-row-test.true in
    let P : Terms → Type 0 = AllByRecursion IsBitTerm in
    record {
      each = (subst P next c.loop-row.invariant.each).1;
      so_far = step_line old c.push_bits.new.terms.items _ (line_at ranks row) (lines_of ranks (drop i rows)) (lines_of ranks (drop (i + 1) rows)) next c.loop-row.invariant.so_far
          (c.in_ok-push_bits.ensures ∙ ap (λ (bits : List ℕ). old ++ (of_bits bits, row.coefficient) ∷ []) c.bits_of.ensures);
    }
