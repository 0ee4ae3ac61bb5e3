use Rattle.spec_compare.proofs.OutputLemmas.{output_in_bits, in_other_bits}
use Rattle.spec_compare.proofs.laws.output_in_input_bits.Goals as goal

pub returns-clause-own : goal.returns-clause-own
returns-clause-own c = output_in_bits

pub returns-clause-other : goal.returns-clause-other
returns-clause-other c = λ circuit other ts well more alike is. in_other_bits circuit other alike ts well more is
