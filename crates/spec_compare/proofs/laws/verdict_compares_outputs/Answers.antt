use Rattle.spec_compare.proofs.OutputLemmas.{outputs_compared}
use Rattle.spec_compare.proofs.laws.verdict_compares_outputs.Goals as goal

pub returns : goal.returns
returns c = λ circuit other verdict are given. outputs_compared circuit other are.well are.other_well are.alike given.ls given.rs verdict given.left given.right given.is
