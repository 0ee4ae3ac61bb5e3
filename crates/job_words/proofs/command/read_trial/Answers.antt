use Rattle.lists.specs.laws.OptionLaws.{if_none}
use Rattle.job_words.proofs.MadeWordsLemmas.{trial_behind}
use Rattle.job_words.proofs.command.read_trial.Goals as goal

pub returns-in-trial-clause-none : goal.returns-in-trial-clause-none
returns-in-trial-clause-none c = if_none c.of_numbers.result (λ none n m t is. none n m t (trial_behind _ _ n m t is)) c.of_numbers.ensures.none
