use Rattle.std.proofs.Common.{refl}
use Rattle.stage_model.proofs.BoundLemmas.{bound_over, bound_within}
use Rattle.stage_model.proofs.over_laws.bound_cuts_over.Goals as goal
use Rattle.circuit_model.specs.BasedNet.{based_output_basis}

pub returns-clause-over : goal.returns-clause-over
returns-clause-over c = λ based bound long name n. bound_over based.k based.product based.netlist based.bases (based_output_basis based) bound name n long refl

pub returns-clause-within : goal.returns-clause-within
returns-clause-within c = λ based bound long. bound_within based.k based.product based.netlist based.bases (based_output_basis based) bound long refl
