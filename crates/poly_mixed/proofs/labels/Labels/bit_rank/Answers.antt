use Rattle.std.proofs.Common.{◌≤◌, ◌+◌, arith}
use Rattle.poly_mixed.proofs.TextLemmas.{few_bits}
use Rattle.poly_mixed.proofs.labels.Labels.bit_rank.Goals as goal

pub bit_in-requires : goal.bit_in-requires
bit_in-requires c =
    let small : c.loop-word.first + c.word.inside.bits ≤ 512 = few_bits _ _ _ _ _ _ _ c.deref-word-items.ensures.value c.self.invariant.words c.self.invariant.few c.loop-word-test.true c.loop-word.invariant.bits c.word.view_is c.word-item.is in
    omega arith

pub overflow_add-first : goal.overflow_add-first
overflow_add-first c =
    let small : c.loop-word.first + c.word.inside.bits ≤ 512 = few_bits _ _ _ _ _ _ _ c.deref-word-items.ensures.value c.self.invariant.words c.self.invariant.few c.loop-word-test.true c.loop-word.invariant.bits c.word.view_is c.word-item.is in
    omega arith
