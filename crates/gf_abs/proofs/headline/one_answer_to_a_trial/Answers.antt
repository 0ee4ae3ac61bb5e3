use Rattle.gf_abs.proofs.AnswerDetermined.{trial_answer_determined}
use Rattle.gf_abs.proofs.headline.one_answer_to_a_trial.Goals as goal

pub returns : goal.returns
returns c = trial_answer_determined
