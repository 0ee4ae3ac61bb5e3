use Rattle.std.proofs.Common.{length}
use Rattle.stage_model.proofs.StepLemmas.{one_word_steps}
use Rattle.stage_model.proofs.word_laws.one_list_of_word_steps.Goals as goal

pub returns : goal.returns
returns c = λ circuit well steps other a b. one_word_steps circuit well (length circuit.words) steps other a b
