use Rattle.std.proofs.Common.{refl, arith}
use Rattle.net_write.proofs.PlainLemmas.{plain_more, within}
use Rattle.net_write.proofs.plain.plain_names.Goals as goal

pub loop-number-preserved : goal.loop-number-preserved
loop-number-preserved c =
    let finds = c.is_plain_net.ensures.0 c.if-not-is_plain_net.false in
    plain_more c.args.net.now c.loop-number.number finds.0 finds.1 c.loop-number.invariant

pub returns : goal.returns
returns c = (λ _ n label at. c.loop-number.invariant n label (omega (arith, within c.args.net.now.labels n label at, c.loop-number-test.false, c.nets-number-end.ensures.count)) at, λ _. refl)
