use Rattle.std.proofs.Common.{length}
use Rattle.net_simplify.proofs.joining.+join.Given as goal

abbrev pub decreases-join : goal.decreases-join
decreases-join l = length l.nets.now
