use Rattle.job_words.proofs.shapes.over_blif.Goals as goal

pub returns-in-None-clause-none : goal.returns-in-None-clause-none
returns-in-None-clause-none c = λ s n t is. c.in-None.ensures.none s n t is.files
