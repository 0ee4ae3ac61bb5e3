use Rattle.std.proofs.Common.{arith}
use Rattle.net_simplify.proofs.StepLemmas.{over_first}
use Rattle.net_simplify.proofs.joining.+add_leaves.Goals as goal

pub returns-then-len-limit : goal.returns-then-len-limit
returns-then-len-limit t c = over_first c.args.limit c.args.more.now c.args.leaves.now.items _ c.in-len1-up.len_at_least c.in_ok-add_leaf-in-len1-up.ensures (omega (arith, c.if-len-limit.true, c.len.ensures.value))
