use Rattle.gf_abs.proofs.MakeHeadlineLemmas.{make_holds}
use Rattle.gf_abs.proofs.headline.what_make_prints_computes.Goals as goal

pub returns : goal.returns
returns c = λ files others words kind signature net reply. make_holds files others signature net kind reply words
