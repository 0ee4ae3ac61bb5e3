use Rattle.std.proofs.Common.{length}
use Rattle.net_blif.proofs.cover.+fits.Given as goal

abbrev pub decreases-fits : goal.decreases-fits
decreases-fits l = length l.pattern.now
