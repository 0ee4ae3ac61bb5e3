use Rattle.std.proofs.Common.{get_or, refl}
use Rattle.std.specs.Prelude.{slice_set}
use Rattle.std.proofs.lemmas.Option.{slice_get-get_or}
use Rattle.std.proofs.lemmas.Result.{IfOk-weaker}
use Rattle.rato_reduce.specs.private.Buckets.{IsMerged, IsMergedAt}
use Rattle.rato_reduce.proofs.buckets.merge_at.Goals as goal

pub returns-clause-merged : goal.returns-clause-merged
returns-clause-merged c =
    let before = get_or c.args.list.now c.args.i c.index-list-i.result in
    let after = c.merge_counted.new.bucket in
    IfOk-weaker c.merge_counted.result (λ n. IsMerged before after c.args.count n) (λ n. IsMergedAt c.args.list.now (slice_set c.args.list.now c.args.i after) c.args.i c.args.count n)
    (λ n merged. record {
      before = before;
      after = after;
      is = record { got = slice_get-get_or c.args.list.now c.args.i c.index-list-i.result c.requires; set = refl };
      merged = merged;
    }) c.merge_counted.ensures.merged
