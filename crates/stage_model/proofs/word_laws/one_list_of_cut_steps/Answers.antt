use Rattle.stage_model.proofs.StepLemmas.{one_cut_steps}
use Rattle.stage_model.proofs.word_laws.one_list_of_cut_steps.Goals as goal

pub returns : goal.returns
returns c = λ field net variables output sound t steps other a b. one_cut_steps field.k field.product field.ring field.no_zero_divisors net sound variables output t steps other a b
