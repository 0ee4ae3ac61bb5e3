use Rattle.job_words.specs.Options.{AreSumOptions}
use Rattle.job_words.proofs.SpelledLemmas.{files_follow_not, no_files}
use Rattle.job_words.proofs.shapes.over_certificate.Goals as goal

pub returns-in-None-read_options-clause-none : goal.returns-in-None-read_options-clause-none
returns-in-None-read_options-clause-none c = λ s n o t k. files_follow_not (λ rest. AreSumOptions rest t k) _ _ _ _ _ c.in-Some.ensures.found (λ set. c.in-None-read_options.ensures.none t k set) s n o

pub returns-in-None-clause-none : goal.returns-in-None-clause-none
returns-in-None-clause-none c = λ s n o t k. no_files (λ rest. AreSumOptions rest t k) _ c.in-None.ensures.none s n o
