use Rattle.std.proofs.Common.{arith, length}
use Rattle.exist_laws.proofs.StepsExist.{some_steps_to, some_word_steps}
use Rattle.exist_laws.proofs.stages.some_recorded_pairs.Goals as goal

pub returns-clause-cuts : goal.returns-clause-cuts
returns-clause-cuts c = λ k mul net variables output cut order elimination. some_steps_to k mul net variables output cut order elimination (length net.gates) (omega arith)

pub returns-clause-words : goal.returns-clause-words
returns-clause-words c = λ circuit well. some_word_steps circuit well
