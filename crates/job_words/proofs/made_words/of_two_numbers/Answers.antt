use Rattle.job_words.proofs.MadeWordsLemmas.{first_number, second_modulus, trial_options}
use Rattle.job_words.proofs.made_words.of_two_numbers.Goals as goal

pub returns-in-None-read_terms-clause-none : goal.returns-in-None-read_terms-clause-none
returns-in-None-read_terms-clause-none c = λ n m t are. c.in-None-read_terms.ensures.none t (trial_options _ _ _ n m t are)

pub returns-in-None-clause-none : goal.returns-in-None-clause-none
returns-in-None-clause-none c = λ n m t are. c.in-None.ensures.none n m (first_number _ _ _ n m t are) (second_modulus _ _ _ n m t are)
