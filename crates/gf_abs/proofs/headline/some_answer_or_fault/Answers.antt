use Rattle.gf_abs.proofs.AnswerExists.{some_answer}
use Rattle.gf_abs.proofs.headline.some_answer_or_fault.Goals as goal

pub returns : goal.returns
returns c = some_answer
