use Rattle.gf_abs.proofs.SameHeadlineLemmas.{same_differs}
use Rattle.gf_abs.proofs.headline.same_prints_the_differing_input.Goals as goal

pub returns : goal.returns
returns c = same_differs
