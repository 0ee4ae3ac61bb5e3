use Rattle.std.proofs.Common.{length}
use Rattle.net_simplify.proofs.rebuilding.+has_leaf.Given as goal

abbrev pub decreases-has_leaf : goal.decreases-has_leaf
decreases-has_leaf l = length l.leaves.now
