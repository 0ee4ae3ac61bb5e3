use Rattle.spec_compare.proofs.SomeOnesLemmas.{as_value}
use Rattle.spec_compare.proofs.laws.output_as_value.Goals as goal

pub returns : goal.returns
returns c = as_value
