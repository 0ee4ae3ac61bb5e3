use Rattle.std.proofs.Common.{List, get_or, ap}
use Rattle.std.specs.Prelude.{slice_set}
use Rattle.std.proofs.lemmas.Option.{slice_get-get_or}
use Rattle.std.proofs.lemmas.Result.{on_ok_weaker}
use Rattle.poly_mixed.specs.Polynomial.{Terms}
use Rattle.rato_reduce.proofs.buckets.push_at.Goals as goal

pub returns-clause-pushed : goal.returns-clause-pushed
returns-clause-pushed c =
    let list : List Terms = c.args.list.now in
    on_ok_weaker c.push_to.result (λ e. record {
      before = get_or list c.args.i c.index-list-i.result;
      is = record { got = slice_get-get_or list c.args.i c.index-list-i.result c.requires; set = ap (slice_set list c.args.i) e };
    }) c.push_to.ensures.pushed
