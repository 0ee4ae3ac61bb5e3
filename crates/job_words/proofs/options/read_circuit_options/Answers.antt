use Rattle.job_words.proofs.SimplifyLemmas.{neither, none_asked}
use Rattle.job_words.proofs.options.read_circuit_options.Goals as goal

pub returns-in-Some-clause-found : goal.returns-in-Some-clause-found
returns-in-Some-clause-found c = none_asked _ c.in-Some.terms c.in-Some.cycles c.in-Some.ensures.found

pub returns-in-None-read_simplify-clause-none : goal.returns-in-None-read_simplify-clause-none
returns-in-None-read_simplify-clause-none c = neither _ c.in-None.ensures.none c.in-None-read_simplify.ensures.none
