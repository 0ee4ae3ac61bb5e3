use Rattle.job_words.specs.Options.{AreNone}
use Rattle.job_words.proofs.SpelledLemmas.{file_follows_not, no_file}
use Rattle.job_words.proofs.shapes.over_file.Goals as goal

pub returns-in-None-read_nothing-clause-none : goal.returns-in-None-read_nothing-clause-none
returns-in-None-read_nothing-clause-none c = λ s f. file_follows_not AreNone _ _ _ _ c.in-Some.ensures.found c.in-None-read_nothing.ensures.none s f

pub returns-in-None-clause-none : goal.returns-in-None-clause-none
returns-in-None-clause-none c = λ s f. no_file AreNone _ c.in-None.ensures.none s f
