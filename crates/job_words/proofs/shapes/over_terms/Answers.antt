use Rattle.job_words.specs.Options.{IsTermsOption}
use Rattle.job_words.proofs.SpelledLemmas.{file_follows_not, no_file}
use Rattle.job_words.proofs.shapes.over_terms.Goals as goal

pub returns-in-None-read_terms-clause-none : goal.returns-in-None-read_terms-clause-none
returns-in-None-read_terms-clause-none c = λ s n t. file_follows_not (λ rest. IsTermsOption 262144 65536 rest t) _ _ _ _ c.in-Some.ensures.found (λ set. c.in-None-read_terms.ensures.none t set) s n

pub returns-in-None-clause-none : goal.returns-in-None-clause-none
returns-in-None-clause-none c = λ s n t. no_file (λ rest. IsTermsOption 262144 65536 rest t) _ c.in-None.ensures.none s n
