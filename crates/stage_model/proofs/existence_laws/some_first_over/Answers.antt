use Rattle.stage_model.proofs.SomeOverLemmas.{circuit_cuts_decided, words_decided, stages_decided}
use Rattle.stage_model.proofs.existence_laws.some_first_over.Goals as goal

pub returns-clause-cuts : goal.returns-clause-cuts
returns-clause-cuts c = λ circuit bound well. circuit_cuts_decided circuit well bound

pub returns-clause-words : goal.returns-clause-words
returns-clause-words c = λ circuit bound well. words_decided circuit well bound

pub returns-clause-both : goal.returns-clause-both
returns-clause-both c = λ circuit bound well. stages_decided circuit well bound
