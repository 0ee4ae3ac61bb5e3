use Rattle.std.proofs.Common.{length, refl}
use Rattle.stage_model.proofs.OutputInBitsLemmas.{last_is_output, same_stage}
use Rattle.stage_model.proofs.SomeStageLemmas.{cut_polynomial}
use Rattle.stage_model.proofs.output_laws.last_cut_is_output.Goals as goal
use Rattle.circuit_model.specs.BasedNet.{based_circuit, based_output_basis}

pub returns-clause-circuit : goal.returns-clause-circuit
returns-clause-circuit c = λ circuit ts well. last_is_output circuit well.well_formed well.latches ts

pub returns-clause-bound : goal.returns-clause-bound
returns-clause-bound c = λ based ts well long.
    let one = same_stage based.k based.product based.netlist based.bases (based_output_basis based) (length based.netlist.net.gates) ts long refl in
    let two = last_is_output (based_circuit based) well.well_formed well.latches ts in
    ((λ is. two.0 (one.0 is)), λ is. one.1 (two.1 is))

pub returns-clause-some : goal.returns-clause-some
returns-clause-some c = λ circuit well.
    let made = cut_polynomial circuit well.well_formed (length circuit.net.gates) in
    (made.0, (last_is_output circuit well.well_formed well.latches made.0).0 made.1)
