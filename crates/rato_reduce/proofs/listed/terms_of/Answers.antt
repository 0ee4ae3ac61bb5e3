use Rattle.std.proofs.Common.{◌+◌, ◌++◌, List, drop, sym, ◌∙◌, ap, subst}
use Rattle.std.specs.List.{AllByRecursion}
use Rattle.lists.specs.laws.TakeLaws.{drop_read}
use Rattle.poly_mixed.specs.Polynomial.{Terms}
use Rattle.rato_reduce.specs.private.CutTerms.{IsBitTerm}
use Rattle.rato_reduce.proofs.BucketLemmas.{each_split, step_lists}
use Rattle.rato_reduce.proofs.listed.terms_of.Goals as goal

pub push_rows-requires : goal.push_rows-requires
push_rows-requires c =
    let lists : List Terms = c.args.list.now in
    let i = c.loop-bucket.bucket-index in
    let next = drop_read lists i c.bucket-item.result c.loop-bucket-test.true c.bucket-item.is in
    let P : Terms → Type 0 = AllByRecursion IsBitTerm in
    subst P (sym c.parts.ensures) (each_split (drop i lists) (drop (i + 1) lists) c.bucket-item.result next c.loop-bucket.invariant.each).0

pub loop-bucket-preserved : goal.loop-bucket-preserved
loop-bucket-preserved c =
    let lists : List Terms = c.args.list.now in
    let old : Terms = c.loop-bucket.terms.items in
    let i = c.loop-bucket.bucket-index in
    let next = drop_read lists i c.bucket-item.result c.loop-bucket-test.true c.bucket-item.is in
    record {
      each = (each_split (drop i lists) (drop (i + 1) lists) c.bucket-item.result next c.loop-bucket.invariant.each).1;
      so_far = step_lists old c.push_rows.new.terms.items _ (drop i lists) (drop (i + 1) lists) c.bucket-item.result next c.loop-bucket.invariant.so_far (c.in_ok-push_rows.ensures ∙ ap (λ (ts : Terms). old ++ ts) c.parts.ensures);
    }
