use Rattle.gf_abs.proofs.ComposeHeadlineLemmas.{compose_prints, compose_same}
use Rattle.gf_abs.proofs.headline.compose_prints_the_output.Goals as goal

pub returns-clause-prints : goal.returns-clause-prints
returns-clause-prints c = compose_prints

pub returns-clause-same : goal.returns-clause-same
returns-clause-same c = compose_same
