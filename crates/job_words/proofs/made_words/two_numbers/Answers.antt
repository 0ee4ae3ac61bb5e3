use Rattle.job_words.proofs.made_words.two_numbers.Goals as goal

pub returns-in_default-clause-none : goal.returns-in_default-clause-none
returns-in_default-clause-none c = λ n m first second. c.in_default.ensures'.none m second
