use Rattle.std.proofs.Common.{length}
use Rattle.gf_iso.proofs.roots.+least_root.Given as goal

abbrev pub decreases-least_root : goal.decreases-least_root
decreases-least_root g l = length l.vectors.now
