use Rattle.job_words.specs.Options.{AreCircuitOptions}
use Rattle.job_words.proofs.SpelledLemmas.{file_follows_not, no_file}
use Rattle.job_words.proofs.shapes.over_circuit.Goals as goal

pub returns-in-None-read_circuit_options-clause-none : goal.returns-in-None-read_circuit_options-clause-none
returns-in-None-read_circuit_options-clause-none c = λ s n t k b. file_follows_not (λ rest. AreCircuitOptions rest t k b) _ _ _ _ c.in-Some.ensures.found (λ set. c.in-None-read_circuit_options.ensures.none t k b set) s n

pub returns-in-None-clause-none : goal.returns-in-None-clause-none
returns-in-None-clause-none c = λ s n t k b. no_file (λ rest. AreCircuitOptions rest t k b) _ c.in-None.ensures.none s n
