use Rattle.std.proofs.Common.{arith}
use Rattle.lists.specs.laws.ReadLaws.{get_below}
use Rattle.compose_wiring.proofs.StepLemmas.{named_more}
use Rattle.compose_wiring.proofs.named.with_bases.Goals as goal

pub loop-place-preserved : goal.loop-place-preserved
loop-place-preserved c =
    let word = get_below c.args.words.now c.loop-place.place c.loop-place-test.true in
    let basis = get_below c.args.bases.now c.loop-place.place (omega (arith, c.loop-place-test.true, c.requires)) in
    named_more c.args.words.now c.args.bases.now c.loop-place.place word.0 basis.0 c.named_at.result c.loop-place.list.items c.push.new.self.items word.1 basis.1 (c.named_at.ensures word.0 basis.0 word.1 basis.1) c.loop-place.invariant c.in_ok-push.ensures.items
