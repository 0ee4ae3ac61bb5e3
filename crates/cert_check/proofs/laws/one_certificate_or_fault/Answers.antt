use Rattle.cert_check.proofs.DeterminedLemmas.{one_certificate}
use Rattle.cert_check.proofs.laws.one_certificate_or_fault.Goals as goal

pub returns : goal.returns
returns c = one_certificate
