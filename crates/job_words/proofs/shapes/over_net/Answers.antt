use Rattle.job_words.specs.Options.{AreStageOptions}
use Rattle.job_words.proofs.SpelledLemmas.{file_follows_not, no_file}
use Rattle.job_words.proofs.shapes.over_net.Goals as goal

pub returns-in-None-read_options-clause-none : goal.returns-in-None-read_options-clause-none
returns-in-None-read_options-clause-none c = λ s n t k. file_follows_not (λ rest. AreStageOptions rest t k) _ _ _ _ c.in-Some.ensures.found (λ set. c.in-None-read_options.ensures.none t k set) s n

pub returns-in-None-clause-none : goal.returns-in-None-clause-none
returns-in-None-clause-none c = λ s n t k. no_file (λ rest. AreStageOptions rest t k) _ c.in-None.ensures.none s n
