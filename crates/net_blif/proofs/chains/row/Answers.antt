use Rattle.std.proofs.Common.{◌∙◌, ap, sym, ◌≤◌, ◌<◌, length}
use Rattle.std.proofs.lemmas.List.{take_all}
use Rattle.std.proofs.lemmas.Option.{get_or_from_slice_get}
use Rattle.net_blif.specs.Chains.{row_of}
use Rattle.net_blif.proofs.ChainLemmas.{row_more}
use Rattle.net_blif.proofs.chains.row.Goals as goal

pub loop-place-preserved : goal.loop-place-preserved
loop-place-preserved c =
    let less : c.loop-place.place < length c.args.items.now = rw c.len-place-end.ensures at c.loop-place-test.true in
    row_more c.args.models.now c.args.items.now c.loop-place.place c.get-item.result c.get-item.result c.loop-place.row.items c.add_model.new.row.items less (sym (get_or_from_slice_get c.args.items.now c.loop-place.place c.get-item.result c.get-item.result (sym c.get-item.ensures.item))) c.loop-place.invariant c.in_ok-add_model.ensures

pub returns : goal.returns
returns c =
    let past : length c.args.items.now ≤ c.loop-place.place = rw c.len-place-end.ensures at c.loop-place-test.false in
    c.loop-place.invariant ∙ ap (row_of c.args.models.now) (take_all c.loop-place.place c.args.items.now past)
