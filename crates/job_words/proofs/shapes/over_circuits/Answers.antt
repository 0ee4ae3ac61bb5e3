use Rattle.job_words.specs.Options.{AreCircuitOptions}
use Rattle.job_words.proofs.SpelledLemmas.{files_follow_not, no_files}
use Rattle.job_words.proofs.shapes.over_circuits.Goals as goal

pub returns-in-None-read_circuit_options-clause-none : goal.returns-in-None-read_circuit_options-clause-none
returns-in-None-read_circuit_options-clause-none c = λ s n o t k b. files_follow_not (λ rest. AreCircuitOptions rest t k b) _ _ _ _ _ c.in-Some.ensures.found (λ set. c.in-None-read_circuit_options.ensures.none t k b set) s n o

pub returns-in-None-clause-none : goal.returns-in-None-clause-none
returns-in-None-clause-none c = λ s n o t k b. no_files (λ rest. AreCircuitOptions rest t k b) _ c.in-None.ensures.none s n o
