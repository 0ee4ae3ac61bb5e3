use Rattle.job_words.specs.Options.{IsCyclesOption}
use Rattle.job_words.proofs.SpelledLemmas.{file_follows_not, no_file}
use Rattle.job_words.proofs.shapes.over_cycles.Goals as goal

pub returns-in-None-read_cycles-clause-none : goal.returns-in-None-read_cycles-clause-none
returns-in-None-read_cycles-clause-none c = λ s n k. file_follows_not (λ rest. IsCyclesOption rest k) _ _ _ _ c.in-Some.ensures.found (λ set. c.in-None-read_cycles.ensures.none k set) s n

pub returns-in-None-clause-none : goal.returns-in-None-clause-none
returns-in-None-clause-none c = λ s n k. no_file (λ rest. IsCyclesOption rest k) _ c.in-None.ensures.none s n
