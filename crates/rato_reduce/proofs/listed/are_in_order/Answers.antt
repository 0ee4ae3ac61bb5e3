use Rattle.std.proofs.Common.{arith}
use Rattle.std.proofs.lemmas.List.Sorted.{all_adjacent_more}
use Rattle.rato_reduce.proofs.ListedLemmas.{rising_terms, StandsBefore}
use Rattle.rato_reduce.proofs.listed.are_in_order.Goals as goal

pub loop-next-preserved : goal.loop-next-preserved
loop-next-preserved c =
    all_adjacent_more c.args.terms.now StandsBefore c.loop-next.next (omega (arith, c.loop-next.auto.next)) c.loop-next.invariant (c.are_in_order_at.ensures c.if-not-are_in_order_at.false)

pub returns : goal.returns
returns c = λ yes. rising_terms c.args.terms.now (λ k d less. c.loop-next.invariant k d (omega (arith, less, c.loop-next-test.false)))
