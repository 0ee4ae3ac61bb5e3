use Rattle.std.proofs.Common.{length}
use Rattle.net_core.proofs.valuation.+index.Given as goal

abbrev pub decreases-index : goal.decreases-index
decreases-index l = length l.nets.now
