use Rattle.job_words.specs.Options.{IsCyclesOption}
use Rattle.job_words.proofs.SpelledLemmas.{files_follow_not, no_files}
use Rattle.job_words.proofs.shapes.over_files.Goals as goal

pub returns-in-None-read_cycles-clause-none : goal.returns-in-None-read_cycles-clause-none
returns-in-None-read_cycles-clause-none c = λ s n o k. files_follow_not (λ rest. IsCyclesOption rest k) _ _ _ _ _ c.in-Some.ensures.found (λ set. c.in-None-read_cycles.ensures.none k set) s n o

pub returns-in-None-clause-none : goal.returns-in-None-clause-none
returns-in-None-clause-none c = λ s n o k. no_files (λ rest. IsCyclesOption rest k) _ c.in-None.ensures.none s n o
