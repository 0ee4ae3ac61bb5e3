use Rattle.job_laws.proofs.CircuitExists.{some_circuit_in, some_circuit_of_text, some_cycles, some_unrolled}
use Rattle.job_laws.proofs.circuits.some_circuit_or_fault.Goals as goal

pub returns-clause-cycles : goal.returns-clause-cycles
returns-clause-cycles c = some_cycles

pub returns-clause-unrolled : goal.returns-clause-unrolled
returns-clause-unrolled c = some_unrolled

pub returns-clause-text : goal.returns-clause-text
returns-clause-text c = some_circuit_of_text

pub returns-clause-file : goal.returns-clause-file
returns-clause-file c = some_circuit_in
