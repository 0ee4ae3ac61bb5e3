use Rattle.job_words.specs.Shapes.{AreValues}
use Rattle.job_words.proofs.SpelledLemmas.{file_follows_not, no_file}
use Rattle.job_words.proofs.shapes.over_values.Goals as goal

pub returns-in-None-read_values-clause-none : goal.returns-in-None-read_values-clause-none
returns-in-None-read_values-clause-none c = λ s n vs k. file_follows_not (λ rest. AreValues rest vs k) _ _ _ _ c.in-Some.ensures.found (λ set. c.in-None-read_values.ensures.none vs k set) s n

pub returns-in-None-clause-none : goal.returns-in-None-clause-none
returns-in-None-clause-none c = λ s n vs k. no_file (λ rest. AreValues rest vs k) _ c.in-None.ensures.none s n
