use Rattle.std.proofs.Common.{length}
use Rattle.cert_check.proofs.subsets.+add_sets.Given as goal

abbrev pub decreases-add_sets : goal.decreases-add_sets
decreases-add_sets g l = length l.ranks.now
