use Rattle.std.proofs.Common.{List, ℕ, ◌∙◌, ap, sym, subst}
use Rattle.std.specs.List.{AllByRecursion}
use Rattle.poly_mixed.specs.Polynomial.{Terms}
use Rattle.rato_reduce.specs.private.Buckets.{coefficient_in, IsLine}
use Rattle.rato_reduce.specs.private.Rows.{AreMerged}
use Rattle.rato_reduce.proofs.bucket.Bucket.merge.Goals as goal

pub returns-clause-sums : goal.returns-clause-sums
returns-clause-sums c q =
    let P : List ℕ → Type 0 = λ ranks. AreMerged ranks c.self.inside.rows.items c.merge_rows.new.rows.items in
    let made = subst P c.as_slice.ensures.value c.in_ok-merge_rows.ensures.merged in
    made.sums q ∙ ap (coefficient_in q) c.self.view_is

pub returns-clause-each : goal.returns-clause-each
returns-clause-each c places level all =
    let P : List ℕ → Type 0 = λ ranks. AreMerged ranks c.self.inside.rows.items c.merge_rows.new.rows.items in
    let Q : Terms → Type 0 = AllByRecursion (IsLine places level) in
    let made = subst P c.as_slice.ensures.value c.in_ok-merge_rows.ensures.merged in
    made.each places level (subst Q (sym c.self.view_is) all)
