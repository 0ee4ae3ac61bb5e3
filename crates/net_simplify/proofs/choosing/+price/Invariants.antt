use Rattle.std.proofs.Common.{length}
use Rattle.net_simplify.proofs.choosing.+price.Given as goal

abbrev pub decreases-price : goal.decreases-price
decreases-price l = length l.leaves.now
