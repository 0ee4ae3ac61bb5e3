use Rattle.std.proofs.Common.{length}
use Rattle.net_simplify.proofs.joining.+add_leaves.Given as goal

abbrev pub decreases-add_leaves : goal.decreases-add_leaves
decreases-add_leaves l = length l.more.now
