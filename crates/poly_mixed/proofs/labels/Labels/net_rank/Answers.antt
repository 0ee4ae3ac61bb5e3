use Rattle.std.proofs.Common.{◌≤◌, ◌+◌, arith}
use Rattle.poly_mixed.proofs.TextLemmas.{few_bits}
use Rattle.poly_mixed.proofs.labels.Labels.net_rank.Goals as goal

pub overflow_add-bits : goal.overflow_add-bits
overflow_add-bits c =
    let small : c.loop-word.bits + c.word.inside.bits ≤ 512 = few_bits _ _ _ _ _ _ _ c.deref-word-items.ensures.value c.self.invariant.words c.self.invariant.few c.loop-word-test.true c.loop-word.invariant c.word.view_is c.word-item.is in
    omega arith
