use Rattle.std.proofs.Common.{length, ◌-◌}
use Rattle.plain_runs.proofs.cut_terms.+poly_after.Given as goal

abbrev pub decreases-poly_after : goal.decreases-poly_after
decreases-poly_after g l = length l.variables.now - length l.bits.now
