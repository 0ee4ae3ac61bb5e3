use Rattle.std.proofs.Common.{◌∙◌, ◌<◌, ◌≤◌, [], length}
use Rattle.std.proofs.lemmas.List.{take_all}
use Rattle.net_blif.proofs.StepLemmas.{copy_step}
use Rattle.net_blif.proofs.once.copied.Goals as goal

pub loop-place-preserved : goal.loop-place-preserved
loop-place-preserved c =
    let less : c.loop-place.place < length c.args.tokens.now = rw c.len-place-end.ensures at c.loop-place-test.true in
    copy_step c.args.tokens.now c.loop-place.place c.get.result.now c.new.result [] c.loop-place.list.items c.push.new.self.items less c.get.ensures c.new.ensures c.loop-place.invariant c.in-Ok.ensures.items

pub returns : goal.returns
returns c =
    let past : length c.args.tokens.now ≤ c.loop-place.place = rw c.len-place-end.ensures at c.loop-place-test.false in
    c.loop-place.invariant ∙ take_all c.loop-place.place c.args.tokens.now past
