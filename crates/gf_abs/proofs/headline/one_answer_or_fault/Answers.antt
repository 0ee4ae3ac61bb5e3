use Rattle.gf_abs.proofs.AnswerDetermined.{answer_determined}
use Rattle.gf_abs.proofs.headline.one_answer_or_fault.Goals as goal

pub returns : goal.returns
returns c = λ words files. answer_determined files words
