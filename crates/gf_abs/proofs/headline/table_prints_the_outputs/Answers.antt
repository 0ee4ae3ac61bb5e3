use Rattle.gf_abs.proofs.TableHeadlineLemmas.{table_prints}
use Rattle.gf_abs.proofs.headline.table_prints_the_outputs.Goals as goal

pub returns : goal.returns
returns c = table_prints
