use Rattle.gf_abs.proofs.EvalHeadlineLemmas.{eval_prints}
use Rattle.gf_abs.proofs.headline.eval_prints_the_output.Goals as goal

pub returns : goal.returns
returns c = eval_prints
