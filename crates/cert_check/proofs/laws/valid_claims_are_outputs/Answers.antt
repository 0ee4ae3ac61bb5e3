use Rattle.cert_check.proofs.OutputLawLemmas.{proves_output}
use Rattle.cert_check.proofs.laws.valid_claims_are_outputs.Goals as goal

pub returns : goal.returns
returns c = proves_output
