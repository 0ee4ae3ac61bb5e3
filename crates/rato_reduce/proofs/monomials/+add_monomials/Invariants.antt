use Rattle.std.proofs.Common.{length}
use Rattle.rato_reduce.proofs.monomials.+add_monomials.Given as goal

abbrev pub decreases-add_monomials : goal.decreases-add_monomials
decreases-add_monomials l = length l.ranks.now
