use Rattle.gf_abs.proofs.TableHeadlineLemmas.{lift_prints}
use Rattle.gf_abs.proofs.headline.lift_prints_the_polynomial.Goals as goal

pub returns : goal.returns
returns c = lift_prints
