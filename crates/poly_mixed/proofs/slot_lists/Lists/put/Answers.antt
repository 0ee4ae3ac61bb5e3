use Rattle.std.proofs.Common.{sym, ◌∙◌}
use Rattle.poly_mixed.specs.private.Listed.{list_at}
use Rattle.poly_mixed.specs.Product.{with_rank}
use Rattle.poly_mixed.proofs.ListsAtLemmas.{one_further, none_left}
use Rattle.poly_mixed.proofs.slot_lists.Lists.put.Goals as goal

pub loop-bit-preserved : goal.loop-bit-preserved
loop-bit-preserved c b = one_further (λ xs. with_rank xs c.args.slot) c.args.bits.now c.loop-bit.bit-index (list_at c.loop-bit.self) (list_at c.put_one.new.self) c.loop-bit-test.true c.in_ok-put_one.ensures b ∙ c.loop-bit.invariant b

pub returns : goal.returns
returns c b = sym (none_left (λ xs. with_rank xs c.args.slot) c.args.bits.now c.loop-bit.bit-index (list_at c.loop-bit.self) c.loop-bit-test.false b) ∙ c.loop-bit.invariant b
